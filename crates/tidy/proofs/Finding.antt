-- The searches for parts, step by step.
use Rattle.std.proofs.Common.{◌≡◌, ℕ, zero, suc, ◌+◌, ◌-◌, ◌<◌, ◌≤◌, min, Bool, true, false, cond, ◌||◌, List, [], ◌∷◌, ◌++◌, length, drop, is_some, Some, None, Option, sym, refl, ap, ◌∙◌, subst, ap₂, append-nil, arith}
use Rattle.std.specs.List.{find}
use Rattle.std.specs.Option.{option_map}
use Rattle.std.proofs.lemmas.Bool.{or_from}
use Rattle.rules.specs.Applies.{some_part}
use Rattle.query.specs.declared.node.Kind.{Kind}
use Rattle.query.specs.declared.node.Kind.TheVariants.{Concat}
use Rattle.query.specs.declared.node.Node.{Node}
use Rattle.query.specs.Kinds.{same_kind}
use Rattle.query.specs.Tree.{Query, node, Queries, none, more, count, records, records_each}
use Rattle.query.specs.Stands.{at}
use Rattle.query.proofs.Alike.{same_kind_refl}
use Rattle.rules.specs.Parts.{join}
use Rattle.rules.specs.Places.{Here, Row, Ends, FoundAt, Finds, size_first, places, same_inner}
use Rattle.rules.proofs.Cursor.{Cursor, cursor_next, cursor_more, cursor_end, whole_of, row_head, here_after}
use Rattle.rules.proofs.Parts.{size_more}
use Rattle.rules.proofs.Walking.{none_long}
use Rattle.rules.proofs.Firsts.{here_first, ends_first, same_inner_is}
use Rattle.tidy.specs.declared.outcome.Outcome.{Outcome}
use Rattle.tidy.specs.declared.wanted.Wanted.{Wanted}
use Rattle.tidy.specs.declared.wanted.Wanted.TheVariants.{Like, Empty}
use Rattle.tidy.specs.Outcomes.{become, of_pair, reach, first_of, within, some_joined}
use Rattle.tidy.specs.declared.part.Part.{Part}
use Rattle.tidy.specs.Rows.{place}
use Rattle.tidy.specs.Searches.{wants, wants_record, pair_at, Pairs}

-- a part is wanted just where its record says so
pub wanted_here : (w : Wanted) (ns : List Node) (i : ℕ) (t : Bool) → t ≡ wants_record w (at ns i) →
    (q : Query) (rest : List Node) → Here ns i q rest → wants w q ≡ t
wanted_here w ns i t e (node k n p l ps) rest h =
    let v = whole_of ns i k n p l ps rest h in
    same w ∙ sym (ap (wants_record w) v.here) ∙ sym e
  where
    same : (w : Wanted) → wants w (node k n p l ps) ≡ wants_record w (record { kind = k; number = n; parts = count ps; place = p; length = l })
    same (Like k) = refl
    same Empty = refl

-- what becomes of two parts, where they lie
pub judged : (whole : Kind) (ns ms : List Node) (i j : ℕ) (q r : Query) (rest rest' : List Node) → Here ns i q rest → Here ms j r rest' →
    pair_at whole (ns, i) (ms, j) ≡ of_pair whole q r
judged whole ns ms i j (node k n p l ps) (node k' n' p' l' ps') rest rest' h h' =
    let v = whole_of ns i k n p l ps rest h in
    let v' = whole_of ms j k' n' p' l' ps' rest' h' in
    ap₂ (λ (a b : Node). become whole a.kind a.number b.kind b.number (same_inner ns i ms j)) v.here v'.here
    ∙ ap (become whole k n k' n') (same_inner_is ns ms i j (node k n p l ps) (node k' n' p' l' ps') rest rest' h h')

pub places_none : (m : ℕ) (ns : List Node) (i : ℕ) → m ≡ 0 → places m ns i ≡ []
unfolding places
places_none zero ns i e = refl
places_none (suc m) ns i e = absurd (omega arith)

pub places_more : (m : ℕ) (ns : List Node) (i m' : ℕ) (ns' : List Node) (i' : ℕ) (p : List Node × ℕ) → p ≡ (ns, i) → m ≡ suc m' → ns' ≡ ns →
    i' ≡ i + size_first 1 (drop i ns) → places m ns i ≡ p ∷ places m' ns' i'
unfolding places
places_more m ns i m' ns' i' p e n s j =
    ap (λ (k : ℕ). places k ns i) n
    ∙ ap₂ (λ (q : List Node × ℕ) (k : ℕ). q ∷ places m' ns k) (sym e) (sym j) ∙ ap (λ (xs : List Node). p ∷ places m' xs i') (sym s)

-- what is found among the places of queries is the first query that passes
module _ (test : Query → Bool) (at_place : List Node × ℕ → Bool) (ns : List Node)
    (same : (i : ℕ) (q : Query) (rest : List Node) → Here ns i q rest → at_place (ns, i) ≡ test q) where
  module _ (q : Query) (qs : Queries) (i : ℕ) (rest : List Node) (h : Row ns i (more q qs) rest) where
    here : Here ns i q (records_each qs ++ rest)
    here = row_head ns i q qs rest h

    next_is : i + size_first 1 (drop i ns) ≡ i + length (records q)
    next_is = ap (λ (k : ℕ). i + k) (here_first ns i q (records_each qs ++ rest) here).1

    next_row : Row ns (i + size_first 1 (drop i ns)) qs rest
    next_row = ap (λ (k : ℕ). drop k ns) next_is ∙ here_after ns i q (records_each qs ++ rest) here

    found_behind : (r : Option ℕ) → test q ≡ false → FoundAt test (i + size_first 1 (drop i ns)) qs r → FoundAt test i (more q qs) r
    unfolding some_part
    found_behind None f w = or_from _ _ f w
    found_behind (Some j) f w =
        let e = w.5 in
        let s = size_more q w.0 in
        let n = next_is in
        (more q w.0, w.1, w.2, ap (more q) w.3, w.4, omega arith)

    found_either : (r : Option (List Node × ℕ)) → FoundAt test (i + size_first 1 (drop i ns)) qs (option_map (λ (p : List Node × ℕ). p.1) r) →
        (t : Bool) → at_place (ns, i) ≡ t → FoundAt test i (more q qs) (option_map (λ (p : List Node × ℕ). p.1) (cond t (Some (ns, i)) r))
    found_either r w true e = (none, q, qs, refl, sym (same i q (records_each qs ++ rest) here) ∙ e, omega (arith, none_long))
    found_either r w false e = found_behind _ (sym (same i q (records_each qs ++ rest) here) ∙ e) w

  found_first : (qs : Queries) (i : ℕ) (rest : List Node) → Row ns i qs rest →
      FoundAt test i qs (option_map (λ (p : List Node × ℕ). p.1) (find at_place (places (count qs) ns i)))
  unfolding some_part places
  found_first none i rest h = refl
  found_first (more q qs) i rest h =
      found_either q qs i rest h _ (found_first qs (i + size_first 1 (drop i ns)) rest (next_row q qs i rest h)) (at_place (ns, i)) refl

  pub finds_first : (m i : ℕ) → Finds test ns m i (option_map (λ (p : List Node × ℕ). p.1) (find at_place (places m ns i)))
  finds_first m i qs rest c h =
      subst (λ (k : ℕ). FoundAt test i qs (option_map (λ (p : List Node × ℕ). p.1) (find at_place (places k ns i)))) c (found_first qs i rest h)

-- the first part that is wanted
pub part_first : (w w' : Wanted) (ns ns' : List Node) (m m' i i' : ℕ) (r : Option (List Node × ℕ)) → w' ≡ w → ns' ≡ ns → m' ≡ m → i' ≡ i →
    r ≡ find (λ (p : List Node × ℕ). wants_record w' (at p.0 p.1)) (places m' ns' i') → Finds (wants w) ns m i (option_map (λ (p : List Node × ℕ). p.1) r)
part_first w w' ns ns' m m' i i' r a b c d e =
    subst (λ (o : Option (List Node × ℕ)). Finds (wants w) ns m i (option_map (λ (p : List Node × ℕ). p.1) o))
    (sym
    (e ∙ ap (λ (v : Wanted). find (λ (p : List Node × ℕ). wants_record v (at p.0 p.1)) (places m' ns' i')) a
    ∙ ap (λ (xs : List Node). find (λ (p : List Node × ℕ). wants_record w (at p.0 p.1)) (places m' xs i')) b
    ∙ ap₂ (λ (n j : ℕ). find (λ (p : List Node × ℕ). wants_record w (at p.0 p.1)) (places n ns j)) c d))
    (finds_first (wants w) (λ (p : List Node × ℕ). wants_record w (at p.0 p.1)) ns (λ j q rest h. sym (wanted_here w ns j _ refl q rest h)) m i)

-- no more may be joined than there are
pub reach_fewer : (whole : Kind) (left n : ℕ) → n ≡ reach whole left → n ≤ left
reach_fewer whole left n e = go (same_kind whole Concat) e
  where
    go : (t : Bool) → n ≡ cond t (min left 1) left → n ≤ left
    go true e = omega arith
    go false e = omega arith

-- the parts that may be joined with the one before them
pub within_stand : (ns : List Node) (whole : Kind) (qs : Queries) (i : ℕ) (rest : List Node) → Row ns i qs rest →
    (rest' : List Node) × (count (within whole qs) ≡ reach whole (count qs)) × Row ns i (within whole qs) rest'
unfolding records
within_stand ns whole qs i rest h = go (same_kind whole Concat) qs h
  where
    go : (t : Bool) (qs : Queries) → Row ns i qs rest →
        (rest' : List Node) × (count (cond t (first_of qs) qs) ≡ cond t (min (count qs) 1) (count qs)) × Row ns i (cond t (first_of qs) qs) rest'
    go true none h = (rest, omega arith, h)
    go true (more q qs) h = (records_each qs ++ rest, omega arith, row_head ns i q qs rest h ∙ ap (λ (z : List Node). z ++ (records_each qs ++ rest)) (sym (append-nil (records q))))
    go false qs h = (rest, refl, h)

-- those of the parts that may be joined are at the head of all
within_head : (whole : Kind) (qs : Queries) (xs ts : Queries) (r : Query) → within whole qs ≡ join xs (more r ts) →
    (us : Queries) × (qs ≡ join xs (more r us)) × (whole ≡ Concat → xs ≡ none)
within_head whole qs xs ts r e = go (same_kind whole Concat) refl qs xs e
  where
    only_first : (q : Query) (xs : Queries) → more q none ≡ join xs (more r ts) → (q ≡ r) × (xs ≡ none)
    only_first q none e = (cc, refl)
    only_first q (more x none) e = absurd (let z : ◌≡◌ {A = ℕ} 1 (suc (suc (count ts))) = ap count e in omega arith)
    only_first q (more x (more y xs)) e = absurd (let z : ◌≡◌ {A = ℕ} 1 (suc (suc (count (join xs (more r ts))))) = ap count e in omega arith)

    go : (t : Bool) → same_kind whole Concat ≡ t → (qs xs : Queries) → cond t (first_of qs) qs ≡ join xs (more r ts) →
        (us : Queries) × (qs ≡ join xs (more r us)) × (whole ≡ Concat → xs ≡ none)
    go true k none none e = absurd (let z : ◌≡◌ {A = ℕ} 0 (suc (count ts)) = ap count e in omega arith)
    go true k none (more x xs) e = absurd (let z : ◌≡◌ {A = ℕ} 0 (suc (count (join xs (more r ts)))) = ap count e in omega arith)
    go true k (more q qs) xs e =
        let o = only_first q xs e in
        (qs, (subst (λ (ys : Queries). more q qs ≡ join ys (more r qs)) (sym o.1) (ap (λ (z : Query). more z qs) o.0)), λ _. o.1)
    go false k qs xs e = (ts, e, λ is. absurd (let z : ◌≡◌ {A = Bool} true false = sym (same_kind_refl Concat) ∙ sym (ap (λ (K : Kind). same_kind K Concat) is) ∙ k in let y : ◌≡◌ {A = ℕ} 0 1 = cc in omega arith))

module _ (whole : Kind) (ns : List Node) (m i k x next : ℕ) (w : Cursor (some_joined whole) ns m i k x) (l : k < m) (ends : Ends ns x next) where
  pub pair_found : (y : ℕ) → ((q : Query) (rest : List Node) → Here ns x q rest → Finds (λ t. is_some (of_pair whole q t)) ns (reach whole (m - k - 1)) next (Some y)) →
      Pairs whole ns m i (Some (x, y))
  pair_found y f qs rest c h =
      let v = cursor_next (some_joined whole) ns m i k x w l qs rest c h in
      let here = row_head ns x v.1 v.2 rest v.5 in
      let e = ends v.1 (records_each v.2 ++ rest) here in
      let b = within_stand ns whole v.2 next rest (ap (λ (z : ℕ). drop z ns) e ∙ here_after ns x v.1 (records_each v.2 ++ rest) here) in
      let d : count v.2 ≡ m - k - 1 = (let d = v.4 in omega arith) in
      let g = f v.1 (records_each v.2 ++ rest) here (within whole v.2) b.0 (b.1 ∙ ap (reach whole) d) b.2 in
      let u = within_head whole v.2 g.0 g.2 g.1 g.3 in
      (v.0, v.1, g.0, g.1, u.0, v.3 ∙ ap (λ (ts : Queries). join v.0 (more v.1 ts)) u.1, g.4, v.6, g.5 ∙ ap (λ (z : ℕ). z + length (records_each g.0)) e, u.2)

  pub pair_passed : ((q : Query) (rest : List Node) → Here ns x q rest → Finds (λ t. is_some (of_pair whole q t)) ns (reach whole (m - k - 1)) next None) →
      Cursor (some_joined whole) ns m i (k + 1) next
  unfolding some_joined
  pair_passed f =
      cursor_more (some_joined whole) ns m i k x w next l ends
      (λ q ts rest c h.
      let here = row_head ns x q ts rest h in
      let e = ends q (records_each ts ++ rest) here in
      let b = within_stand ns whole ts next rest (ap (λ (z : ℕ). drop z ns) e ∙ here_after ns x q (records_each ts ++ rest) here) in
      let d : count ts ≡ m - k - 1 = omega arith in
      ap (λ (t : Bool). t || some_joined whole ts)
      (f q (records_each ts ++ rest) here (within whole ts) b.0 (b.1 ∙ ap (reach whole) d) b.2))

-- what is found lies in the same records
found_lies : (test : List Node × ℕ → Bool) (m : ℕ) (ns : List Node) (i : ℕ) (ys : List Node) (y : ℕ) → Some (ys, y) ≡ find test (places m ns i) → ys ≡ ns
unfolding places
found_lies test zero ns i ys y e = absurd (let z : ◌≡◌ {A = ℕ} 0 1 = cc in omega arith)
found_lies test (suc m) ns i ys y e = go (found_lies test m ns (i + size_first 1 (drop i ns)) ys y) (test (ns, i)) e
  where
    go : (Some (ys, y) ≡ find test (places m ns (i + size_first 1 (drop i ns))) → ys ≡ ns) → (t : Bool) → Some (ys, y) ≡ cond t (Some (ns, i)) (find test (places m ns (i + size_first 1 (drop i ns)))) → ys ≡ ns
    go others true f = let z : ◌≡◌ {A = List Node × ℕ} (ys, y) (ns, i) = cc in ap (λ (p : List Node × ℕ). p.0) z
    go others false f = others f

-- a row from which a part is split off, with those behind it
module _ (whole : Kind) (ns : List Node) (m i rc x bc next : ℕ) (rs rs' : List Node) (p : List Node × ℕ) (same : rs ≡ ns) (fits : rc ≤ m)
    (w : Cursor (some_joined whole) ns m i (m - rc) x)
    (s : (p ≡ (rs, x)) × (rc ≡ suc bc) × (rs' ≡ rs) × (next ≡ x + size_first 1 (drop x rs))) where
  split_ends : Ends ns x next
  split_ends = ends_first ns x next (s.3 ∙ ap (λ (xs : List Node). x + size_first 1 (drop x xs)) same)

  module _ (m' i' : ℕ) (ns' : List Node) (r : Option (List Node × ℕ)) (en : ns' ≡ rs') (ei : i' ≡ next) (em : m' ≡ reach whole bc)
      (f : r ≡ find (λ (y : List Node × ℕ). is_some (pair_at whole p y)) (places m' ns' i')) where
    joined_with : List Node × ℕ → Bool
    joined_with y = is_some (pair_at whole (ns, x) y)

    split_found : r ≡ find joined_with (places (reach whole (m - (m - rc) - 1)) ns next)
    unfolding joined_with
    split_found =
        let left : bc ≡ m - (m - rc) - 1 = (let e = s.1 in omega arith) in
        f ∙ ap (λ (u : List Node × ℕ). find (λ (y : List Node × ℕ). is_some (pair_at whole u y)) (places m' ns' i')) (s.0 ∙ ap (λ (xs : List Node). (xs, x)) same)
        ∙ ap (λ (xs : List Node). find (λ (y : List Node × ℕ). is_some (pair_at whole (ns, x) y)) (places m' xs i')) (en ∙ s.2 ∙ same)
        ∙ ap₂ (λ (n j : ℕ). find (λ (y : List Node × ℕ). is_some (pair_at whole (ns, x) y)) (places n ns j)) (em ∙ ap (reach whole) left) ei

    split_finds : (q : Query) (rest : List Node) → Here ns x q rest →
        Finds (λ t. is_some (of_pair whole q t)) ns (reach whole (m - (m - rc) - 1)) next (option_map (λ (y : List Node × ℕ). y.1) r)
    unfolding joined_with
    split_finds q rest h =
        subst (λ (o : Option (List Node × ℕ)). Finds (λ t. is_some (of_pair whole q t)) ns (reach whole (m - (m - rc) - 1)) next (option_map (λ (y : List Node × ℕ). y.1) o))
        (sym split_found)
        (finds_first (λ t. is_some (of_pair whole q t)) joined_with ns
        (λ j t rest' h'. ap is_some (judged whole ns ns x j q t rest rest' h h')) (reach whole (m - (m - rc) - 1)) next)

    pub split_pair : (ys : List Node) (y : ℕ) → r ≡ Some (ys, y) → (ys ≡ ns) × Pairs whole ns m i (Some (x, y))
    split_pair ys y e =
        let l : m - rc < m = (let a = s.1 in omega arith) in (
          found_lies joined_with (reach whole (m - (m - rc) - 1)) ns next ys y (sym e ∙ split_found),
          pair_found whole ns m i (m - rc) x next w l split_ends y
              (λ q rest h.
              subst (λ (o : Option (List Node × ℕ)). Finds (λ t. is_some (of_pair whole q t)) ns (reach whole (m - (m - rc) - 1)) next (option_map (λ (y : List Node × ℕ). y.1) o)) e
              (split_finds q rest h)),
        )

    pub split_passed : r ≡ None → Cursor (some_joined whole) ns m i (m - bc) next
    split_passed e =
        let l : m - rc < m = (let a = s.1 in omega arith) in
        let on : m - rc + 1 ≡ m - bc = (let a = s.1 in omega arith) in
        subst (λ (k : ℕ). Cursor (some_joined whole) ns m i k next) on
        (pair_passed whole ns m i (m - rc) x next w l split_ends
        (λ q rest h.
        subst (λ (o : Option (List Node × ℕ)). Finds (λ t. is_some (of_pair whole q t)) ns (reach whole (m - (m - rc) - 1)) next (option_map (λ (y : List Node × ℕ). y.1) o)) e
        (split_finds q rest h)))

pub pair_missing : (whole : Kind) (ns : List Node) (m i k x : ℕ) → Cursor (some_joined whole) ns m i k x → m ≤ k → Pairs whole ns m i None
unfolding some_joined
pair_missing whole ns m i k x w l qs rest c h = cursor_end (some_joined whole) ns m i k x w l refl qs rest c h

-- the same pairs, of the same row
pub pairs_here : (whole whole' : Kind) (ns ns' : List Node) (m m' i i' : ℕ) (r : Option (ℕ × ℕ)) → whole' ≡ whole → ns' ≡ ns → m' ≡ m → i' ≡ i →
    Pairs whole' ns' m' i' r → Pairs whole ns m i r
pairs_here whole whole' ns ns' m m' i i' r a b c d f =
    subst (λ (k : ℕ). Pairs whole ns m k r) d
    (subst (λ (k : ℕ). Pairs whole ns k i' r) c (subst (λ (xs : List Node). Pairs whole xs m' i' r) b (subst (λ (k : Kind). Pairs k ns' m' i' r) a f)))

-- what becomes of two parts of the same whole
pub outcome_here : (whole whole' : Kind) (ns xs ys : List Node) (x y : ℕ) (o : Option Outcome) → whole' ≡ whole → xs ≡ ns → ys ≡ ns →
    o ≡ pair_at whole' (xs, x) (ys, y) → o ≡ pair_at whole (ns, x) (ns, y)
outcome_here whole whole' ns xs ys x y o a b c e =
    e ∙ ap (λ (k : Kind). pair_at k (xs, x) (ys, y)) a ∙ ap₂ (λ (us vs : List Node). pair_at whole (us, x) (vs, y)) b c

pub found_some : (r : Option Part) → is_some (option_map (λ (p : List Node × ℕ). p.1) (option_map place r)) ≡ is_some r
found_some None = refl
found_some (Some p) = refl
