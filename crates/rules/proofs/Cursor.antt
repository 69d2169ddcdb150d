-- Going through a row of queries one by one, while what is looked for in those left is what is looked for in all.
use Rattle.std.proofs.Common.{◌≡◌, ℕ, ◌+◌, ◌-◌, ◌<◌, ◌≤◌, Bool, false, List, ◌++◌, length, drop, sym, refl, ap, ◌∙◌, append_assoc, arith}
use Rattle.std.proofs.lemmas.List.{drop-drop, drop_at}
use Rattle.query.specs.declared.node.Kind.{Kind}
use Rattle.query.specs.declared.node.Node.{Node}
use Rattle.query.specs.Tree.{Query, node, Queries, none, more, count, records, records_each}
use Rattle.query.specs.Stands.{at}
use Rattle.query.proofs.Standing.{drop_head}
use Rattle.rules.specs.Parts.{join}
use Rattle.rules.specs.Places.{Here, Row, Ends}
use Rattle.rules.proofs.Parts.{size_join, size_more}
use Rattle.rules.proofs.Walking.{none_long}

pub join_none : (qs : Queries) → join qs none ≡ qs
join_none none = refl
join_none (more q qs) = ap (more q) (join_none qs)

pub join_group : (qs rs ts : Queries) → join (join qs rs) ts ≡ join qs (join rs ts)
join_group none rs ts = refl
join_group (more q qs) rs ts = ap (more q) (join_group qs rs ts)

-- the query at the head of a row
pub row_head : (ns : List Node) (i : ℕ) (q : Query) (qs : Queries) (rest : List Node) → Row ns i (more q qs) rest → Here ns i q (records_each qs ++ rest)
unfolding records
row_head ns i q qs rest h = h ∙ append_assoc (records q) (records_each qs) rest

pub row_from : (ns : List Node) (i : ℕ) (q : Query) (qs : Queries) (rest : List Node) → Here ns i q (records_each qs ++ rest) → Row ns i (more q qs) rest
unfolding records
row_from ns i q qs rest h = h ∙ sym (append_assoc (records q) (records_each qs) rest)

-- what stands behind a query
pub here_after : (ns : List Node) (i : ℕ) (q : Query) (rest : List Node) → Here ns i q rest → drop (i + length (records q)) ns ≡ rest
here_after ns i q rest h =
    sym (drop-drop (length (records q)) i ns) ∙ ap (drop (length (records q))) h ∙ drop_at (records q) rest (length (records q)) refl

-- the record of a query, and the row of its parts
pub record Whole (ns : List Node) (i : ℕ) (k : Kind) (n p l : ℕ) (ps : Queries) (rest : List Node) : Type 0 where
  pub inside : i < length ns
  pub here : at ns i ≡ record { kind = k; number = n; parts = count ps; place = p; length = l }
  pub parts : Row ns (i + 1) ps rest

pub whole_of : (ns : List Node) (i : ℕ) (k : Kind) (n p l : ℕ) (ps : Queries) (rest : List Node) → Here ns i (node k n p l ps) rest → Whole ns i k n p l ps rest
unfolding records
whole_of ns i k n p l ps rest h = let d = drop_head ns i _ _ h in record { inside = d.0; here = d.1; parts = d.2 }

pub here_inside : (ns : List Node) (i : ℕ) (q : Query) (rest : List Node) → Here ns i q rest → i < length ns
here_inside ns i (node k n p l ps) rest h = (whole_of ns i k n p l ps rest h).inside

pub part_of_row : (xs ts : Queries) (ns : List Node) (i : ℕ) (rest : List Node) → Row ns i (join xs ts) rest → Row ns (i + length (records_each xs)) ts rest
unfolding records
part_of_row none ts ns i rest h = let e : i + 0 ≡ i = omega arith in ap (λ (x : ℕ). drop x ns) e ∙ h
part_of_row (more q xs) ts ns i rest h =
    let a = here_after ns i q (records_each (join xs ts) ++ rest) (row_head ns i q (join xs ts) rest h) in
    let b = part_of_row xs ts ns (i + length (records q)) rest a in
    let e : i + length (records_each (more q xs)) ≡ i + length (records q) + length (records_each xs) = (let s = size_more q xs in omega arith) in
    ap (λ (x : ℕ). drop x ns) e ∙ b

-- k of m queries have been passed, and what F looks for in those left is what it looks for in all
abbrev pub Passed : (Queries → Bool) → List Node → ℕ → ℕ → ℕ → ℕ → Queries → List Node → Type 0
Passed F ns m i k next qs rest =
    (xs ts : Queries) × (qs ≡ join xs ts) × (count ts ≡ m - k) × Row ns next ts rest × (next ≡ i + length (records_each xs)) × (F ts ≡ F qs)

module _ (F : Queries → Bool) (ns : List Node) (m i : ℕ) (qs : Queries) (rest : List Node) where
  pub passed_start : count qs ≡ m → Row ns i qs rest → Passed F ns m i 0 i qs rest
  passed_start c h = (none, qs, refl, omega arith, h, omega (arith, none_long), refl)

  module _ (k next : ℕ) (v : Passed F ns m i k next qs rest) where
    -- the query that comes next
    pub passed_next : k < m →
        (xs : Queries) × (q : Query) × (ts : Queries) × (qs ≡ join xs (more q ts)) × (count ts ≡ m - (k + 1)) × Row ns next (more q ts) rest
        × (next ≡ i + length (records_each xs)) × (F (more q ts) ≡ F qs)
    passed_next l = go v.0 v.1 v.2 v.3 v.4 v.5 v.6
      where
        go : (xs ts : Queries) → qs ≡ join xs ts → count ts ≡ m - k → Row ns next ts rest → next ≡ i + length (records_each xs) → F ts ≡ F qs →
            (xs : Queries) × (q : Query) × (ts : Queries) × (qs ≡ join xs (more q ts)) × (count ts ≡ m - (k + 1)) × Row ns next (more q ts) rest
            × (next ≡ i + length (records_each xs)) × (F (more q ts) ≡ F qs)
        go xs none e c r f g = absurd (omega arith)
        go xs (more q ts) e c r f g = (xs, q, ts, e, omega arith, r, f, g)

    -- it is passed where F looks for nothing in it
    pub passed_more : (after : ℕ) → k < m →
        ((xs : Queries) (q : Query) (ts : Queries) → qs ≡ join xs (more q ts) → count ts ≡ m - (k + 1) → Row ns next (more q ts) rest →
        (after ≡ next + length (records q)) × (F (more q ts) ≡ F ts)) → Passed F ns m i (k + 1) after qs rest
    passed_more after l past =
        let u = passed_next l in
        let q = u.1 in
        let ts = u.2 in
        let here = row_head ns next q ts rest u.5 in
        let e = past u.0 q ts u.3 u.4 u.5 in
        let stop = e.0 in
        let behind : Row ns after ts rest = ap (λ (x : ℕ). drop x ns) stop ∙ here_after ns next q (records_each ts ++ rest) here in
        let a = size_join u.0 (more q none) in
        let b = size_more q none in
        let f = u.6 in (
          join u.0 (more q none),
          ts,
          u.3 ∙ sym (join_group u.0 (more q none) ts),
          u.4,
          behind,
          (omega (arith, none_long)),
          sym e.1 ∙ u.7,
        )

    -- at the end all are passed
    pub passed_end : m ≤ k → F none ≡ false → (F qs ≡ false) × (next ≡ i + length (records_each qs))
    passed_end l z = go v.1 v.2 v.3 v.5 v.6
      where
        go : (ts : Queries) → qs ≡ join v.0 ts → count ts ≡ m - k → next ≡ i + length (records_each v.0) → F ts ≡ F qs →
            (F qs ≡ false) × (next ≡ i + length (records_each qs))
        go none e c n f = (sym f ∙ z, n ∙ ap (λ (x : Queries). i + length (records_each x)) (sym (e ∙ join_none v.0)))
        go (more q ts) e c n f = absurd (omega arith)

-- the same of every row of m queries that stands there
abbrev pub Cursor : (Queries → Bool) → List Node → ℕ → ℕ → ℕ → ℕ → Type 0
Cursor F ns m i k next = (qs : Queries) (rest : List Node) → count qs ≡ m → Row ns i qs rest → Passed F ns m i k next qs rest

module _ (F : Queries → Bool) (ns : List Node) (m i : ℕ) where
  pub cursor_start : Cursor F ns m i 0 i
  cursor_start qs rest c h = passed_start F ns m i qs rest c h

  module _ (k next : ℕ) (w : Cursor F ns m i k next) where
    pub cursor_next : k < m → (qs : Queries) (rest : List Node) → count qs ≡ m → Row ns i qs rest →
        (xs : Queries) × (q : Query) × (ts : Queries) × (qs ≡ join xs (more q ts)) × (count ts ≡ m - (k + 1)) × Row ns next (more q ts) rest
        × (next ≡ i + length (records_each xs)) × (F (more q ts) ≡ F qs)
    cursor_next l qs rest c h = passed_next F ns m i qs rest k next (w qs rest c h) l

    pub cursor_more : (after : ℕ) → k < m → Ends ns next after →
        ((q : Query) (ts : Queries) (rest : List Node) → count ts ≡ m - (k + 1) → Row ns next (more q ts) rest → F (more q ts) ≡ F ts) →
        Cursor F ns m i (k + 1) after
    cursor_more after l ends past qs rest c h =
        passed_more F ns m i qs rest k next (w qs rest c h) after l
        (λ xs q ts e n r. (ends q (records_each ts ++ rest) (row_head ns next q ts rest r), past q ts rest n r))

    pub cursor_end : m ≤ k → F none ≡ false → (qs : Queries) (rest : List Node) → count qs ≡ m → Row ns i qs rest → F qs ≡ false
    cursor_end l z qs rest c h = (passed_end F ns m i qs rest k next (w qs rest c h) l z).0
