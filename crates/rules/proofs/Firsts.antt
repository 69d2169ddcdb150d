-- Queries at the head of records, counted by their parts alone.
use Rattle.std.proofs.Common.{◌≡◌, ℕ, zero, suc, ◌+◌, ◌-◌, ◌<◌, ◌≤◌, Bool, true, false, ◌&&◌, eqb, List, [], ◌∷◌, ◌++◌, length, take, drop, sym, refl, ap, ◌∙◌, ap₂, append_assoc, append-nil, arith}
use Rattle.std.specs.List.{list_all, zip}
use Rattle.std.proofs.lemmas.List.{length-append, length-drop, drop-drop, drop_more, take_at}
use Rattle.std.proofs.lemmas.Bool.{eqb-true, eqb-false, false≢true}
use Rattle.query.specs.declared.node.Kind.{Kind}
use Rattle.query.specs.declared.node.Node.{Node}
use Rattle.query.specs.Kinds.{same_kind}
use Rattle.query.specs.Tree.{Query, node, Queries, none, more, count, records, records_each, alike, alike_each}
use Rattle.query.specs.Stands.{blank, at}
use Rattle.rules.specs.Applies.{parts_of}
use Rattle.rules.specs.Places.{Here, Row, Stands, Ends, same_record, stand_first, size_first, inner, same_inner}
use Rattle.rules.proofs.Cursor.{whole_of}
use Rattle.rules.proofs.Walking.{alike_count}

-- queries at the head are passed
mutual
  unfolding records stand_first

  stand_past : (q : Query) (m : ℕ) (rest : List Node) → stand_first (suc m) (records q ++ rest) ≡ stand_first m rest
  stand_past (node k n p l ps) m rest = stand_past_each ps m rest

  stand_past_each : (qs : Queries) (m : ℕ) (rest : List Node) → stand_first (count qs + m) (records_each qs ++ rest) ≡ stand_first m rest
  stand_past_each none m rest = let e : count none + m ≡ m = omega arith in ap (λ (k : ℕ). stand_first k rest) e
  stand_past_each (more q qs) m rest =
      let e : count (more q qs) + m ≡ suc (count qs + m) = omega arith in
      ap₂ stand_first e (append_assoc (records q) (records_each qs) rest)
      ∙ stand_past q (count qs + m) (records_each qs ++ rest) ∙ stand_past_each qs m rest

mutual
  unfolding records size_first

  size_past : (q : Query) (m : ℕ) (rest : List Node) → size_first (suc m) (records q ++ rest) ≡ length (records q) + size_first m rest
  size_past (node k n p l ps) m rest =
      let e : suc (length (records_each ps) + size_first m rest) ≡ suc (length (records_each ps)) + size_first m rest = omega arith in
      ap suc (size_past_each ps m rest) ∙ e

  size_past_each : (qs : Queries) (m : ℕ) (rest : List Node) → size_first (count qs + m) (records_each qs ++ rest) ≡ length (records_each qs) + size_first m rest
  size_past_each none m rest =
      let e : count none + m ≡ m = omega arith in
      let z : size_first m rest ≡ 0 + size_first m rest = omega arith in
      ap (λ (k : ℕ). size_first k rest) e ∙ z
  size_past_each (more q qs) m rest =
      let e : count (more q qs) + m ≡ suc (count qs + m) = omega arith in
      let a = length-append (records q) (records_each qs) in
      let d = size_past_each qs m rest in
      let z : length (records q) + size_first (count qs + m) (records_each qs ++ rest) ≡ length (records q ++ records_each qs) + size_first m rest = omega arith in
      ap₂ size_first e (append_assoc (records q) (records_each qs) rest) ∙ size_past q (count qs + m) (records_each qs ++ rest) ∙ z

none_first : (m : ℕ) (rest : List Node) → m ≡ 0 → (stand_first m rest ≡ true) × (size_first m rest ≡ 0)
unfolding stand_first size_first
none_first zero rest e = (refl, refl)
none_first (suc m) rest e = absurd (omega arith)

module _ (ns : List Node) (i m : ℕ) (qs : Queries) (rest : List Node) (c : count qs ≡ m) (h : Row ns i qs rest) where
  -- a row is found by counting
  pub row_first : (stand_first m (drop i ns) ≡ true) × (size_first m (drop i ns) ≡ length (records_each qs))
  row_first =
      let n : m ≡ count qs + 0 = omega arith in
      let z = none_first 0 rest refl in
      let a = size_past_each qs 0 rest in (
        ap₂ stand_first n h ∙ stand_past_each qs 0 rest ∙ z.0,
        ap₂ size_first n h ∙ (let b = z.1 in omega arith),
      )

module _ (ns : List Node) (i : ℕ) (q : Query) (rest : List Node) (h : Here ns i q rest) where
  -- so is one query
  pub here_first : (stand_first 1 (drop i ns) ≡ true) × (size_first 1 (drop i ns) ≡ length (records q))
  here_first =
      let z = none_first 0 rest refl in
      let a = size_past q 0 rest in (
        ap (stand_first 1) h ∙ stand_past q 0 rest ∙ z.0,
        ap (size_first 1) h ∙ (let b = z.1 in omega arith),
      )

pub stands_first : (ns : List Node) (i : ℕ) → Stands ns i → stand_first 1 (drop i ns) ≡ true
stands_first ns i st = (here_first ns i st.1 st.2 st.3).0

pub ends_first : (ns : List Node) (i j : ℕ) → j ≡ i + size_first 1 (drop i ns) → Ends ns i j
ends_first ns i j e q rest h = e ∙ ap (λ (k : ℕ). i + k) (here_first ns i q rest h).1

-- there are records for all of them
pub first_room : (m : ℕ) (ns : List Node) → stand_first m ns ≡ true → m ≤ length ns
unfolding stand_first
first_room zero ns e = omega arith
first_room (suc m) [] e = absurd (false≢true e)
first_room (suc m) (n ∷ ns) e = let a = first_room (n.parts + m) ns e in omega arith

pub first_size : (m : ℕ) (ns : List Node) → stand_first m ns ≡ true → (m ≤ size_first m ns) × (size_first m ns ≤ length ns)
unfolding stand_first size_first
first_size zero ns e = (omega arith, omega arith)
first_size (suc m) [] e = absurd (false≢true e)
first_size (suc m) (n ∷ ns) e = let a = first_size (n.parts + m) ns e in let b = a.0 in let d = a.1 in (omega arith, omega arith)

-- some of them at the head, and the others behind
pub first_split : (a b : ℕ) (ns : List Node) → stand_first (a + b) ns ≡ true → (stand_first a ns ≡ true) × (stand_first b (drop (size_first a ns) ns) ≡ true)
unfolding stand_first size_first
first_split zero b ns e = let z : b ≡ 0 + b = omega arith in (refl, ap (λ (m : ℕ). stand_first m ns) z ∙ e)
first_split (suc a) b [] e = let z : suc (a + b) ≡ suc a + b = omega arith in absurd (false≢true (ap (λ (m : ℕ). stand_first m []) z ∙ e))
first_split (suc a) b (n ∷ ns) e =
    let c : n.parts + a + b ≡ n.parts + (a + b) = omega arith in
    let z : suc (a + b) ≡ suc a + b = omega arith in
    first_split (n.parts + a) b ns (ap (λ (m : ℕ). stand_first m ns) c ∙ ap (λ (m : ℕ). stand_first m (n ∷ ns)) z ∙ e)

-- the record at the head is passed, and its parts are still to come
module _ (ns : List Node) (i m : ℕ) (l : 0 < m) (inside : i < length ns) where
  pub first_more : (stand_first m (drop i ns) ≡ stand_first (m - 1 + (at ns i).parts) (drop (i + 1) ns))
      × (size_first m (drop i ns) ≡ suc (size_first (m - 1 + (at ns i).parts) (drop (i + 1) ns)))
  unfolding stand_first size_first
  first_more =
      let e = drop_more ns i blank inside in
      let n : m ≡ suc (m - 1) = omega arith in
      let c : (at ns i).parts + (m - 1) ≡ m - 1 + (at ns i).parts = omega arith in (
        ap₂ stand_first n e ∙ ap (λ (k : ℕ). stand_first k (drop (i + 1) ns)) c,
        ap₂ size_first n e ∙ ap (λ (k : ℕ). suc (size_first k (drop (i + 1) ns))) c,
      )

first_inside : (ns : List Node) (i m : ℕ) → 0 < m → stand_first m (drop i ns) ≡ true → i < length ns
first_inside ns i m l e = let a = first_room m (drop i ns) e in let b = length-drop i ns in omega arith

-- so many queries at the next index are still to come of the one that stands at index i
abbrev pub Ending : List Node → ℕ → ℕ → ℕ → Type 0
Ending ns i left next = (stand_first left (drop next ns) ≡ true) × (next + size_first left (drop next ns) ≡ i + size_first 1 (drop i ns))

pub ending_more : (ns : List Node) (i left next : ℕ) → 0 < left → next < length ns → Ending ns i left next →
    (left - 1 + (at ns next).parts ≤ length ns) × Ending ns i (left - 1 + (at ns next).parts) (next + 1)
ending_more ns i left next l u w =
    let f = first_more ns next left l u in
    let s = sym f.0 ∙ w.0 in
    let r = first_room _ _ s in
    let d = length-drop (next + 1) ns in
    let a = f.1 in
    let b = w.1 in
    (omega arith, (s, omega arith))

pub ending_none : (ns : List Node) (i left next : ℕ) → left ≡ 0 → Ending ns i left next → next ≡ i + size_first 1 (drop i ns)
ending_none ns i left next z w = let a = (none_first left (drop next ns) z).1 in let b = w.1 in omega arith

pub ending_end : (ns : List Node) (i left next : ℕ) → length ns ≤ next → Ending ns i left next → next ≡ i + size_first 1 (drop i ns)
ending_end ns i left next u w =
    let r = first_room left (drop next ns) w.0 in
    let d = length-drop next ns in
    ending_none ns i left next (omega arith) w

module _ (ns : List Node) (i : ℕ) (st : stand_first 1 (drop i ns) ≡ true) where
  pub part_inside : i < length ns
  part_inside = first_inside ns i 1 (omega arith) st

  pub parts_first : stand_first (at ns i).parts (drop (i + 1) ns) ≡ true
  parts_first =
      let z : (at ns i).parts ≡ 1 - 1 + (at ns i).parts = omega arith in
      ap (λ (m : ℕ). stand_first m (drop (i + 1) ns)) z ∙ sym (first_more ns i 1 (omega arith) part_inside).0 ∙ st

  pub part_size : size_first 1 (drop i ns) ≡ suc (size_first (at ns i).parts (drop (i + 1) ns))
  part_size =
      let z : 1 - 1 + (at ns i).parts ≡ (at ns i).parts = omega arith in
      (first_more ns i 1 (omega arith) part_inside).1 ∙ ap (λ (m : ℕ). suc (size_first m (drop (i + 1) ns))) z

  -- the records of its parts lie inside
  pub part_room : (i + size_first 1 (drop i ns) ≤ length ns) × (i + 1 ≤ i + size_first 1 (drop i ns))
  part_room =
      let a = first_size 1 (drop i ns) st in
      let b = a.0 in
      let c = a.1 in
      let d = length-drop i ns in
      let e = part_inside in
      (omega arith, omega arith)

-- a row's first query, and the others
module _ (ns : List Node) (i m : ℕ) (l : 0 < m) (st : stand_first m (drop i ns) ≡ true) where
  pub row_part : stand_first 1 (drop i ns) ≡ true
  row_part =
      let n : 1 + (m - 1) ≡ m = omega arith in
      (first_split 1 (m - 1) (drop i ns) (ap (λ (k : ℕ). stand_first k (drop i ns)) n ∙ st)).0

  pub row_others : stand_first (m - 1) (drop (i + size_first 1 (drop i ns)) ns) ≡ true
  row_others =
      let n : 1 + (m - 1) ≡ m = omega arith in
      ap (stand_first (m - 1)) (sym (drop-drop (size_first 1 (drop i ns)) i ns))
      ∙ (first_split 1 (m - 1) (drop i ns) (ap (λ (k : ℕ). stand_first k (drop i ns)) n ∙ st)).1

pub row_fewer : (ns : List Node) (i m n : ℕ) → n ≤ m → stand_first m (drop i ns) ≡ true → stand_first n (drop i ns) ≡ true
row_fewer ns i m n l st =
    let e : n + (m - n) ≡ m = omega arith in
    (first_split n (m - n) (drop i ns) (ap (λ (k : ℕ). stand_first k (drop i ns)) e ∙ st)).0

-- the records of the parts of a query
pub inner_is : (ns : List Node) (i : ℕ) (k : Kind) (n p l : ℕ) (ps : Queries) (rest : List Node) → Here ns i (node k n p l ps) rest → inner ns i ≡ records_each ps
inner_is ns i k n p l ps rest h =
    let v = whole_of ns i k n p l ps rest h in
    let m = (row_first ns (i + 1) (at ns i).parts ps rest (sym (ap (λ (x : Node). x.parts) v.here)) v.parts).1 in
    ap₂ (λ (a : ℕ) (xs : List Node). take a xs) m v.parts ∙ take_at (records_each ps) rest (length (records_each ps)) refl

-- whether records are the same one by one, as far as both go
abbrev same_all : List Node → List Node → Bool
same_all xs ys = list_all (λ (p : Node × Node). same_record p.0 p.1) (zip xs ys)

same_counts : (a b u v : Bool) → ((a && (b && true)) && (u && v)) ≡ (((a && b) && u) && v)
same_counts true true u v = refl
same_counts true false u v = refl
same_counts false b u v = refl

other_counts : (a b w v : Bool) → ((a && (b && false)) && w) ≡ (((a && b) && false) && v)
other_counts true true w v = refl
other_counts true false w v = refl
other_counts false b w v = refl

and_group : (x y z : Bool) → (x && (y && z)) ≡ ((x && y) && z)
and_group true y z = refl
and_group false y z = refl

-- as many queries are equal just where their records are the same
mutual
  unfolding records alike

  alike_past : (q r : Query) (xs ys : List Node) → same_all (records q ++ xs) (records r ++ ys) ≡ (alike q r && same_all xs ys)
  alike_past (node k n p l ps) (node k' n' p' l' ps') xs ys = go (eqb (count ps) (count ps')) refl (λ e. alike_past_each ps ps' xs ys e)
    where
      go : (t : Bool) → eqb (count ps) (count ps') ≡ t →
          (count ps ≡ count ps' → same_all (records_each ps ++ xs) (records_each ps' ++ ys) ≡ (alike_each ps ps' && same_all xs ys)) →
          ((same_kind k k' && (eqb n n' && eqb (count ps) (count ps'))) && same_all (records_each ps ++ xs) (records_each ps' ++ ys))
          ≡ (((same_kind k k' && eqb n n') && alike_each ps ps') && same_all xs ys)
      go true e f =
          ap₂ (λ (t u : Bool). (same_kind k k' && (eqb n n' && t)) && u) e (f (eqb-true (count ps) (count ps') e))
          ∙ same_counts (same_kind k k') (eqb n n') (alike_each ps ps') (same_all xs ys)
      go false e f =
          ap (λ (t : Bool). (same_kind k k' && (eqb n n' && t)) && same_all (records_each ps ++ xs) (records_each ps' ++ ys)) e
          ∙ other_counts (same_kind k k') (eqb n n') (same_all (records_each ps ++ xs) (records_each ps' ++ ys)) (same_all xs ys)
          ∙ ap (λ (t : Bool). ((same_kind k k' && eqb n n') && t) && same_all xs ys) (sym (alike_count ps ps' (eqb-false (count ps) (count ps') e)))

  alike_past_each : (qs rs : Queries) (xs ys : List Node) → count qs ≡ count rs →
      same_all (records_each qs ++ xs) (records_each rs ++ ys) ≡ (alike_each qs rs && same_all xs ys)
  alike_past_each none none xs ys c = refl
  alike_past_each none (more r rs) xs ys c = absurd (omega arith)
  alike_past_each (more q qs) none xs ys c = absurd (omega arith)
  alike_past_each (more q qs) (more r rs) xs ys c =
      ap₂ same_all (append_assoc (records q) (records_each qs) xs) (append_assoc (records r) (records_each rs) ys)
      ∙ alike_past q r (records_each qs ++ xs) (records_each rs ++ ys)
      ∙ ap (λ (t : Bool). alike q r && t) (alike_past_each qs rs xs ys (omega arith))
      ∙ and_group (alike q r) (alike_each qs rs) (same_all xs ys)

alike_rows : (ps qs : Queries) → (eqb (count ps) (count qs) && same_all (records_each ps) (records_each qs)) ≡ alike_each ps qs
alike_rows ps qs = go (eqb (count ps) (count qs)) refl
  where
    and_end : (x : Bool) → (x && true) ≡ x
    and_end true = refl
    and_end false = refl

    go : (t : Bool) → eqb (count ps) (count qs) ≡ t → (t && same_all (records_each ps) (records_each qs)) ≡ alike_each ps qs
    go true e =
        ap₂ same_all (sym (append-nil (records_each ps))) (sym (append-nil (records_each qs)))
        ∙ alike_past_each ps qs [] [] (eqb-true (count ps) (count qs) e) ∙ and_end (alike_each ps qs)
    go false e = sym (alike_count ps qs (eqb-false (count ps) (count qs) e))

-- the parts of two queries where they lie
pub same_inner_is : (ns ms : List Node) (i j : ℕ) (q r : Query) (rest rest' : List Node) → Here ns i q rest → Here ms j r rest' →
    same_inner ns i ms j ≡ alike_each (parts_of q) (parts_of r)
same_inner_is ns ms i j (node k n p l ps) (node k' n' p' l' ps') rest rest' h h' =
    let v = whole_of ns i k n p l ps rest h in
    let v' = whole_of ms j k' n' p' l' ps' rest' h' in
    ap₂ (λ (a b : ℕ). eqb a b && same_all (inner ns i) (inner ms j)) (ap (λ (x : Node). x.parts) v.here) (ap (λ (x : Node). x.parts) v'.here)
    ∙ ap₂ (λ (xs ys : List Node). eqb (count ps) (count ps') && same_all xs ys) (inner_is ns i k n p l ps rest h) (inner_is ms j k' n' p' l' ps' rest' h')
    ∙ alike_rows ps ps'
