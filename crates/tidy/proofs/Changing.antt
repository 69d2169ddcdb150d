-- Which change each rule asks for, and that no rule applies where none is asked for.
use Rattle.std.proofs.Common.{◌≡◌, ℕ, ◌+◌, ◌≤◌, Bool, true, false, cond, not, ◌&&◌, ◌||◌, eqb, ltb, List, ◌++◌, length, is_some, Some, None, Option, sym, refl, ap, ◌∙◌, subst, ap₂, arith}
use Rattle.std.proofs.lemmas.List.{length-append, length-drop}
use Rattle.std.proofs.lemmas.Bool.{and_parts, and_from, and_left, and_right, or_parts, or_from, cond-true, eqb-true, ne_eqb, ltb-true, false≢true, true≢false}
use Rattle.query.specs.declared.node.Kind.{Kind}
use Rattle.query.specs.declared.node.Kind.TheVariants.{Symbol, Any, Concat, Exact, Atleast, Atmost, In, Precisely, Noless, Nomore, And, Or, Inorder}
use Rattle.query.specs.declared.node.Node.{Node}
use Rattle.query.specs.declared.node.Role.{Role}
use Rattle.query.specs.declared.node.Stage.{Stage}
use Rattle.query.specs.Kinds.{same_kind}
use Rattle.query.specs.Tree.{Query, node, Queries, none, more, count, records, records_each, alike, alike_each}
use Rattle.query.specs.Rules.{parts_right, keeps}
use Rattle.query.specs.Stands.{at}
use Rattle.query.proofs.Alike.{same_kind_is}
use Rattle.rules.specs.Applies.{kind_of, number_of, repeats, unordered, gathers, some_part, some_pair, some_next, over_one, empty, merges, windowed_each, stands_alone, applies_here}
use Rattle.rules.specs.Parts.{join, merged_kind, merged_number, renamed}
use Rattle.rules.specs.Places.{Here, Row, Stands, Ends, Finds, inner, any_window}
use Rattle.rules.specs.Shorter.{Shorter}
use Rattle.rules.proofs.Cases.{on_gathers, on_unordered}
use Rattle.rules.proofs.Cursor.{whole_of, row_head, here_after, part_of_row}
use Rattle.rules.proofs.Parts.{size_node}
use Rattle.rules.proofs.Shorter.{keeps_parts, unnest_shorter, double_shorter, neighbour_shorter, alternative_shorter, single_shorter, lift_shorter, dead_shorter, neighbours_shorter, nested_shorter}
use Rattle.rules.proofs.Walking.{window_records_each}
use Rattle.rules.proofs.Firsts.{inner_is}
use Rattle.tidy.proofs.Finding.{judged}
use Rattle.tidy.specs.declared.outcome.Outcome.{Outcome}
use Rattle.tidy.specs.declared.outcome.Outcome.TheVariants.{Joined}
use Rattle.tidy.specs.declared.head.Head.{Head}
use Rattle.tidy.specs.declared.change.Change.{Change}
use Rattle.tidy.specs.declared.change.Change.TheVariants.{Lift, Clear, Unnest, Join}
use Rattle.tidy.specs.declared.wanted.Wanted.TheVariants.{Like, Empty}
use Rattle.tidy.specs.Outcomes.{joins_as, fits_nothing, repeats_become, of_pair, within, some_joined}
use Rattle.tidy.specs.Searches.{wants, pair_at, Pairs}
use Rattle.tidy.specs.Changes.{strict, Shortens, Joining, Changed, Changes, Alone, nested_become}

-- one part and no more
only_one : (ps : Queries) → count ps ≡ 1 → (q : Query) × (ps ≡ more q none)
only_one none e = absurd (omega arith)
only_one (more q none) e = (q, refl)
only_one (more q (more r qs)) e = absurd (omega arith)

-- Single part

pub single_change : (ns : List Node) (i : ℕ) → gathers (at ns i).kind ≡ true → (at ns i).parts ≡ 1 → Changes ns i (Some Lift)
single_change ns i g c s o (node k n p l ps) rest kept h =
    let v = whole_of ns i k n p l ps rest h in
    let q = only_one ps (sym (ap (λ (x : Node). x.parts) v.here) ∙ c) in (
      q.0,
      record { k = k; n = n; p = p; l = l; was = ap (node k n p l) q.1 },
      subst (λ (qs : Queries). Shorter (node k n p l qs) q.0) (sym q.1)
          (single_shorter k n p l q.0 (sym (ap (λ (x : Node). gathers x.kind) v.here) ∙ g)),
    )

-- Unnesting

pub unnest_change : (ns : List Node) (i j : ℕ) → gathers (at ns i).kind ≡ true → Finds (wants (Like (at ns i).kind)) ns (at ns i).parts (i + 1) (Some j) →
    Changes ns i (Some (Unnest j))
unnest_change ns i j g f s o (node k n p l ps) rest kept h =
    let v = whole_of ns i k n p l ps rest h in
    let u = f ps rest (sym (ap (λ (x : Node). x.parts) v.here)) v.parts in
    go u.0 u.1 u.2 u.3 (sym (ap (λ (x : Node). same_kind x.kind (kind_of u.1)) v.here) ∙ u.4) u.5
    (sym (ap (λ (x : Node). gathers x.kind) v.here) ∙ g)
  where
    go : (xs : Queries) (q : Query) (ts : Queries) → ps ≡ join xs (more q ts) → same_kind k (kind_of q) ≡ true → j ≡ i + 1 + length (records_each xs) →
        gathers k ≡ true → Shortens i (node k n p l ps) (Unnest j)
    go xs (node k' m p' l' rs) ts e sk place g =
        let e' : ps ≡ join xs (more (node k m p' l' rs) ts) = e ∙ ap (λ (K : Kind). join xs (more (node K m p' l' rs) ts)) (sym (same_kind_is k k' sk)) in (
          node k n p l (join xs (join rs ts)),
          record { k = k; n = n; p = p; l = l; m = m; p' = p'; l' = l'; before = xs; inner = rs; behind = ts; was = ap (node k n p l) e'; now_is = refl; place = place },
          subst (λ (qs : Queries). Shorter (node k n p l qs) (node k n p l (join xs (join rs ts)))) (sym e')
              (unnest_shorter k n p l m p' l' xs rs ts s o g (subst (λ (qs : Queries). keeps s o (node k n p l qs) ≡ true) e' kept)),
        )

-- fits_nothing sequence

pub dead_change : (ns : List Node) (i j : ℕ) → same_kind (at ns i).kind Concat ≡ true → Finds (wants Empty) ns (at ns i).parts (i + 1) (Some j) → Changes ns i (Some Clear)
dead_change ns i j g f s o (node k n p l ps) rest kept h =
    let v = whole_of ns i k n p l ps rest h in
    let u = f ps rest (sym (ap (λ (x : Node). x.parts) v.here)) v.parts in
    let is : k ≡ Concat = same_kind_is k Concat (sym (ap (λ (x : Node). same_kind x.kind Concat) v.here) ∙ g) in (
      node Any 0 p l none,
      record { k = k; n = n; p = p; l = l; qs = ps; was = refl; now_is = refl },
      subst (λ (qs : Queries). Shorter (node k n p l qs) (node Any 0 p l none)) (sym u.3)
          (subst (λ (K : Kind). Shorter (node K n p l (join u.0 (more u.1 u.2))) (node Any 0 p l none)) (sym is) (dead_shorter n p l u.0 u.2 u.1 u.4)),
    )

-- the same from whether such a part was found
pub cleared : (ns : List Node) (i : ℕ) (o : Option ℕ) → true ≡ (same_kind (at ns i).kind Concat && is_some o) →
    Finds (wants Empty) ns (at ns i).parts (i + 1) o → Changes ns i (Some Clear)
cleared ns i None e f = absurd (false≢true (sym (and_right (same_kind (at ns i).kind Concat) false refl) ∙ sym e))
cleared ns i (Some j) e f = dead_change ns i j (and_parts (same_kind (at ns i).kind Concat) true (sym e)).0 f

pub not_cleared : (ns : List Node) (i : ℕ) (o : Option ℕ) → false ≡ (same_kind (at ns i).kind Concat && is_some o) →
    Finds (wants Empty) ns (at ns i).parts (i + 1) o → same_kind (at ns i).kind Concat ≡ true → Finds (wants Empty) ns (at ns i).parts (i + 1) None
not_cleared ns i None e f g = f
not_cleared ns i (Some j) e f g = absurd (false≢true (e ∙ ap (λ (t : Bool). t && true) g))

-- Two parts

no_outcome : (o : Option Outcome) → o ≡ None → is_some o ≡ true → ⊥
no_outcome o e s = false≢true (sym (ap is_some e) ∙ s)

-- what `joins_as` says of two parts of a whole that gathers
joined_shorter : (k : Kind) (n p l : ℕ) (xs rs ts : Queries) (q r : Query) (K : Kind) (N : ℕ) → gathers k ≡ true → (k ≡ Concat → rs ≡ none) →
    of_pair k q r ≡ joins_as K N →
    Shorter (node k n p l (join xs (more q (join rs (more r ts))))) (node k n p l (join xs (more (renamed q K N) (join rs ts))))
unfolding alike
joined_shorter k n p l xs rs ts (node M m p₁ l₁ ps) (node M' m' p₂ l₂ ps') K N g next e =
    go (alike_each ps ps') refl (unordered k && (same_kind M M' && eqb m m')) refl (repeats M && repeats M') refl e
  where
    q : Query
    q = node M m p₁ l₁ ps

    r : Query
    r = node M' m' p₂ l₂ ps'

    Result : Kind → Queries → Kind → ℕ → Type 0
    Result k rs K N = Shorter (node k n p l (join xs (more q (join rs (more r ts))))) (node k n p l (join xs (more (node K N p₁ l₁ ps) (join rs ts))))

    apart : ◌≡◌ {A = Option Outcome} None (joins_as K N) → ⊥
    apart e = let z : ◌≡◌ {A = ℕ} 0 1 = cc in omega arith

    dead : ◌≡◌ {A = Option Outcome} fits_nothing (joins_as K N) → ⊥
    dead e = let z : ◌≡◌ {A = ℕ} 0 1 = cc in omega arith

    same_k : (a b : Kind) (c d : ℕ) → ◌≡◌ {A = Option Outcome} (joins_as a c) (joins_as b d) → (a ≡ b) × (c ≡ d)
    same_k a b c d e =
        let h : ◌≡◌ {A = Head} (record { kind = a; number = c }) (record { kind = b; number = d }) = cc in
        (ap (λ (x : Head). x.kind) h, ap (λ (x : Head). x.number) h)

    neighbour : over_one q r ≡ true → (t : Bool) → (same_kind M' Atmost || eqb m' 0) ≡ t → rs ≡ none → cond t (joins_as M m) fits_nothing ≡ joins_as K N → Result Concat rs K N
    neighbour o true d z e =
        let i = same_k M K m N e in
        subst (λ (x : Queries). Result Concat x K N) (sym z)
        (subst (λ (x : Kind). Result Concat none x N) i.0 (subst (λ (x : ℕ). Result Concat none M x) i.1 (neighbour_shorter n p l xs ts q r o d)))
    neighbour o false d z e = absurd (dead e)

    alternative : over_one q r ≡ true → (t : Bool) → merges M m M' m' ≡ t → cond t (joins_as (merged_kind M M') (merged_number M m M' m')) None ≡ joins_as K N → Result Any rs K N
    alternative o true d e =
        let i = same_k (merged_kind M M') K (merged_number M m M' m') N e in
        subst (λ (x : Kind). Result Any rs x N) i.0 (subst (λ (x : ℕ). Result Any rs (merged_kind M M') x) i.1 (alternative_shorter n p l xs rs ts q r o d))
    alternative o false d e = absurd (apart e)

    go : (s : Bool) → alike_each ps ps' ≡ s → (t : Bool) → (unordered k && (same_kind M M' && eqb m m')) ≡ t → (u : Bool) → (repeats M && repeats M') ≡ u →
        cond s (cond t (joins_as M m) (cond u (repeats_become k M m M' m') None)) None ≡ joins_as K N → Result k rs K N
    go false s t d u f e = absurd (apart e)
    go true s true d u f e =
        let i = same_k M K m N e in
        let a = and_parts (unordered k) _ d in
        subst (λ (x : Kind). Result k rs x N) i.0 (subst (λ (x : ℕ). Result k rs M x) i.1 (double_shorter k n p l xs rs ts q r a.0 (and_from _ _ a.1 s)))
    go true s false d false f e = absurd (apart e)
    go true s false d true f e =
        let o = and_from _ _ f s in
        on_gathers (λ x. (x ≡ Concat → rs ≡ none) → repeats_become x M m M' m' ≡ joins_as K N → Result x rs K N)
        (λ z e. neighbour o (same_kind M' Atmost || eqb m' 0) refl (z refl) e)
        (λ _ e. alternative o (merges M m M' m') refl e) (λ _ e. absurd (apart e)) (λ _ e. absurd (apart e)) k g next e

-- what `fits_nothing` says of them
dead_shorter' : (k : Kind) (n p l : ℕ) (xs rs ts : Queries) (q r : Query) → gathers k ≡ true → (k ≡ Concat → rs ≡ none) → of_pair k q r ≡ fits_nothing →
    Shorter (node k n p l (join xs (more q (join rs (more r ts))))) (node Any 0 p l none)
dead_shorter' k n p l xs rs ts (node M m p₁ l₁ ps) (node M' m' p₂ l₂ ps') g next e =
    go (alike_each ps ps') refl (unordered k && (same_kind M M' && eqb m m')) refl (repeats M && repeats M') refl e
  where
    q : Query
    q = node M m p₁ l₁ ps

    r : Query
    r = node M' m' p₂ l₂ ps'

    Result : Kind → Queries → Type 0
    Result k rs = Shorter (node k n p l (join xs (more q (join rs (more r ts))))) (node Any 0 p l none)

    apart : ◌≡◌ {A = Option Outcome} None fits_nothing → ⊥
    apart e = let z : ◌≡◌ {A = ℕ} 0 1 = cc in omega arith

    joined : (a : Kind) (c : ℕ) → ◌≡◌ {A = Option Outcome} (joins_as a c) fits_nothing → ⊥
    joined a c e = let z : ◌≡◌ {A = ℕ} 0 1 = cc in omega arith

    neighbour : over_one q r ≡ true → (t : Bool) → (same_kind M' Atmost || eqb m' 0) ≡ t → rs ≡ none → cond t (joins_as M m) fits_nothing ≡ fits_nothing → Result Concat rs
    neighbour o true d z e = absurd (joined M m e)
    neighbour o false d z e = subst (λ (x : Queries). Result Concat x) (sym z) (neighbours_shorter n p l xs ts q r o d)

    alternative : (t : Bool) → cond t (joins_as (merged_kind M M') (merged_number M m M' m')) None ≡ fits_nothing → ⊥
    alternative true e = joined (merged_kind M M') (merged_number M m M' m') e
    alternative false e = apart e

    go : (s : Bool) → alike_each ps ps' ≡ s → (t : Bool) → (unordered k && (same_kind M M' && eqb m m')) ≡ t → (u : Bool) → (repeats M && repeats M') ≡ u →
        cond s (cond t (joins_as M m) (cond u (repeats_become k M m M' m') None)) None ≡ fits_nothing → Result k rs
    go false s t d u f e = absurd (apart e)
    go true s true d u f e = absurd (joined M m e)
    go true s false d false f e = absurd (apart e)
    go true s false d true f e =
        let o = and_from _ _ f s in
        on_gathers (λ x. (x ≡ Concat → rs ≡ none) → repeats_become x M m M' m' ≡ fits_nothing → Result x rs)
        (λ z e. neighbour o (same_kind M' Atmost || eqb m' 0) refl (z refl) e)
        (λ _ e. absurd (alternative (merges M m M' m') e)) (λ _ e. absurd (apart e)) (λ _ e. absurd (apart e)) k g next e

module _ (ns : List Node) (i x y : ℕ) (g : gathers (at ns i).kind ≡ true) (f : Pairs (at ns i).kind ns (at ns i).parts (i + 1) (Some (x, y))) where
  module _ (o : Option Outcome) (e : o ≡ pair_at (at ns i).kind (ns, x) (ns, y)) where
    -- the two, and what becomes of them
    found : (k : Kind) (n p l : ℕ) (ps : Queries) (rest : List Node) → Here ns i (node k n p l ps) rest →
        (xs : Queries) × (q : Query) × (rs : Queries) × (r : Query) × (ts : Queries)
        × (ps ≡ join xs (more q (join rs (more r ts)))) × (x ≡ i + 1 + length (records_each xs))
        × (y ≡ x + length (records q) + length (records_each rs)) × (k ≡ Concat → rs ≡ none) × (gathers k ≡ true) × (o ≡ of_pair k q r) × (is_some o ≡ true)
    found k n p l ps rest h =
        let v = whole_of ns i k n p l ps rest h in
        let kind : (at ns i).kind ≡ k = ap (λ (z : Node). z.kind) v.here in
        let u = f ps rest (sym (ap (λ (z : Node). z.parts) v.here)) v.parts in
        let row = subst (λ (qs : Queries). Row ns (i + 1) qs rest) u.5 v.parts in
        let tail-x = join u.2 (more u.3 u.4) in
        let at_x = part_of_row u.0 (more u.1 tail-x) ns (i + 1) rest row in
        let here-x = row_head ns (i + 1 + length (records_each u.0)) u.1 tail-x rest at_x in
        let at_y = part_of_row u.2 (more u.3 u.4) ns (i + 1 + length (records_each u.0) + length (records u.1)) rest
        (here_after ns (i + 1 + length (records_each u.0)) u.1 (records_each tail-x ++ rest) here-x) in
        let here-y = row_head ns (i + 1 + length (records_each u.0) + length (records u.1) + length (records_each u.2)) u.3 u.4 rest at_y in
        let x-is : i + 1 + length (records_each u.0) ≡ x = sym u.7 in
        let y-is : i + 1 + length (records_each u.0) + length (records u.1) + length (records_each u.2) ≡ y =
        ap (λ (z : ℕ). z + length (records u.1) + length (records_each u.2)) x-is ∙ sym u.8 in
        let o_is : o ≡ of_pair (at ns i).kind u.1 u.3 =
        e ∙ judged (at ns i).kind ns ns x y u.1 u.3 (records_each tail-x ++ rest) (records_each u.4 ++ rest)
        (subst (λ (z : ℕ). Here ns z u.1 (records_each tail-x ++ rest)) x-is here-x) (subst (λ (z : ℕ). Here ns z u.3 (records_each u.4 ++ rest)) y-is here-y) in (
          u.0,
          u.1,
          u.2,
          u.3,
          u.4,
          u.5,
          u.7,
          u.8,
          (λ is. u.9 (kind ∙ is)),
          sym (ap gathers kind) ∙ g,
          o_is ∙ ap (λ (K : Kind). of_pair K u.1 u.3) kind,
          ap is_some o_is ∙ u.6,
        )

    pub join_change : (t : Head) → o ≡ Some (Joined t) → Joining ns i (Some (Join x y t))
    join_change t is (node k n p l ps) rest h =
        let u = found k n p l ps rest h in (
          node k n p l (join u.0 (more (renamed u.1 t.kind t.number) (join u.2 u.4))),
          record { k = k; n = n; p = p; l = l; before = u.0; earlier = u.1; between = u.2; later = u.3; behind = u.4; was = ap (node k n p l) u.5; now_is = refl; place = u.6; place' = u.7 },
          subst (λ (qs : Queries). Shorter (node k n p l qs) (node k n p l (join u.0 (more (renamed u.1 t.kind t.number) (join u.2 u.4))))) (sym u.5)
              (joined_shorter k n p l u.0 u.2 u.4 u.1 u.3 t.kind t.number u.9 u.8 (sym u.10 ∙ is)),
        )

    pub clear_change : o ≡ fits_nothing → Joining ns i (Some Clear)
    clear_change is (node k n p l ps) rest h =
        let u = found k n p l ps rest h in (
          node Any 0 p l none,
          record { k = k; n = n; p = p; l = l; qs = ps; was = refl; now_is = refl },
          subst (λ (qs : Queries). Shorter (node k n p l qs) (node Any 0 p l none)) (sym u.5)
              (dead_shorter' k n p l u.0 u.2 u.4 u.1 u.3 u.9 u.8 (sym u.10 ∙ is)),
        )

    pub never_apart : o ≡ None → Joining ns i None
    never_apart is (node k n p l ps) rest h = let u = found k n p l ps rest h in absurd (no_outcome o is u.11)

pub nothing_joins : (ns : List Node) (i : ℕ) → Pairs (at ns i).kind ns (at ns i).parts (i + 1) None → Joining ns i None
nothing_joins ns i f (node k n p l ps) rest h =
    let v = whole_of ns i k n p l ps rest h in
    sym (ap (λ (z : Node). some_joined z.kind ps) v.here) ∙ f ps rest (sym (ap (λ (z : Node). z.parts) v.here)) v.parts

-- No rule

part_fewer : (f g : Query → Bool) → ((q : Query) → f q ≡ true → g q ≡ true) → (qs : Queries) → some_part g qs ≡ false → some_part f qs ≡ false
unfolding some_part
part_fewer f g h none e = refl
part_fewer f g h (more q qs) e =
    let b = or_parts (g q) _ e in
    or_from _ _ (go (f q) refl b.0) (part_fewer f g h qs b.1)
  where
    go : (t : Bool) → f q ≡ t → g q ≡ false → f q ≡ false
    go true e z = absurd (true≢false (sym (h q e) ∙ z))
    go false e z = e

-- a rule speaks of two equal parts, of two alternatives that make one, and of neighbours
speaks_double : (k : Kind) (q r : Query) → unordered k ≡ true → alike q r ≡ true → is_some (of_pair k q r) ≡ true
unfolding alike
speaks_double k (node M m p l ps) (node M' m' p' l' ps') g e =
    let a = and_parts (same_kind M M' && eqb m m') _ e in
    ap is_some (cond-true (alike_each ps ps') _ None a.1 ∙ cond-true (unordered k && (same_kind M M' && eqb m m')) (joins_as M m) _ (and_from _ _ g a.0))

speaks_over : (k : Kind) (q r : Query) → over_one q r ≡ true → is_some (repeats_become k (kind_of q) (number_of q) (kind_of r) (number_of r)) ≡ true → is_some (of_pair k q r) ≡ true
speaks_over k (node M m p l ps) (node M' m' p' l' ps') o e =
    let a = and_parts (repeats M && repeats M') _ o in
    ap is_some (cond-true (alike_each ps ps') _ None a.1) ∙ either (unordered k && (same_kind M M' && eqb m m')) (cond-true (repeats M && repeats M') _ None a.0)
  where
    either : (t : Bool) → cond (repeats M && repeats M') (repeats_become k M m M' m') None ≡ repeats_become k M m M' m' →
        is_some (cond t (joins_as M m) (cond (repeats M && repeats M') (repeats_become k M m M' m') None)) ≡ true
    either true is = refl
    either false is = ap is_some is ∙ e

speaks_neighbour : (q r : Query) → over_one q r ≡ true → is_some (of_pair Concat q r) ≡ true
speaks_neighbour q r o = speaks_over Concat q r o (either (same_kind (kind_of r) Atmost || eqb (number_of r) 0))
  where
    either : (t : Bool) → is_some (cond t (joins_as (kind_of q) (number_of q)) fits_nothing) ≡ true
    either true = refl
    either false = refl

speaks_alternative : (q r : Query) → (over_one q r && merges (kind_of q) (number_of q) (kind_of r) (number_of r)) ≡ true → is_some (of_pair Any q r) ≡ true
speaks_alternative q r e =
    let a = and_parts (over_one q r) _ e in
    speaks_over Any q r a.0 (ap is_some (cond-true (merges (kind_of q) (number_of q) (kind_of r) (number_of r)) _ None a.1))

unordered_within : (k : Kind) (qs : Queries) → unordered k ≡ true → within k qs ≡ qs
unordered_within k qs g = on_unordered (λ K. within K qs ≡ qs) refl refl refl k g

-- where no two parts are joined, no pair of them passes a test that a rule is_some of
no_pair : (k : Kind) (test : Query → Query → Bool) → unordered k ≡ true → ((q r : Query) → test q r ≡ true → is_some (of_pair k q r) ≡ true) →
    (qs : Queries) → some_joined k qs ≡ false → some_pair test qs ≡ false
unfolding some_joined some_pair
no_pair k test g h none e = refl
no_pair k test g h (more q qs) e =
    let b = or_parts _ _ e in
    or_from _ _ (part_fewer (test q) (λ r. is_some (of_pair k q r)) (h q) qs
    (sym (ap (some_part (λ r. is_some (of_pair k q r))) (unordered_within k qs g)) ∙ b.0)) (no_pair k test g h qs b.1)

no_next : (test : Query → Query → Bool) → ((q r : Query) → test q r ≡ true → is_some (of_pair Concat q r) ≡ true) →
    (qs : Queries) → some_joined Concat qs ≡ false → some_next test qs ≡ false
unfolding some_joined some_next some_part
no_next test h none e = refl
no_next test h (more q none) e = refl
no_next test h (more q (more r qs)) e =
    let b = or_parts _ _ e in
    let c = or_parts (is_some (of_pair Concat q r)) false b.0 in
    or_from _ _ (go (test q r) refl c.0) (no_next test h (more r qs) b.1)
  where
    go : (t : Bool) → test q r ≡ t → is_some (of_pair Concat q r) ≡ false → test q r ≡ false
    go true e z = absurd (true≢false (sym (h q r e) ∙ z))
    go false e z = e

-- no rule applies to a whole that gathers
no_rule : (k : Kind) (n : ℕ) (qs : Queries) → gathers k ≡ true → (count qs ≡ 1 → ⊥) → some_part (λ q. same_kind k (kind_of q)) qs ≡ false →
    (same_kind k Concat ≡ true → some_part empty qs ≡ false) → some_joined k qs ≡ false → applies_here k n qs ≡ false
unfolding applies_here
no_rule k n qs g one nest dead join =
    or_from _ _ (and_right (gathers k) _ nest)
    (or_from _ _ (both (unordered k) _ (λ u. no_pair k alike u (λ q r e. speaks_double k q r u e) qs join))
    (or_from _ _ (and_right (gathers k) _ (ne_eqb (count qs) 1 one))
    (or_from _ _ (both (same_kind k Concat) _ (λ u. and_right (ltb 1 (count qs)) _ (dead u)))
    (or_from _ _ (both (same_kind k Concat) _ (λ u. no_next over_one speaks_neighbour qs (subst (λ (K : Kind). some_joined K qs ≡ false) (same_kind_is k Concat u) join)))
    (or_from _ _ (both (same_kind k Any) _ (λ u. no_pair Any (λ q r. over_one q r && merges (kind_of q) (number_of q) (kind_of r) (number_of r)) refl speaks_alternative qs
    (subst (λ (K : Kind). some_joined K qs ≡ false) (same_kind_is k Any u) join)))
    (and_left (same_kind k Exact || same_kind k Atleast) _ (on_gathers (λ K. (same_kind K Exact || same_kind K Atleast) ≡ false) refl refl refl refl k g)))))))
  where
    both : (x y : Bool) → (x ≡ true → y ≡ false) → (x && y) ≡ false
    both true y h = h refl
    both false y h = refl

pub joins_change : (ns : List Node) (i : ℕ) (r : Option Change) → gathers (at ns i).kind ≡ true → ((at ns i).parts ≡ 1 → ⊥) →
    Finds (wants (Like (at ns i).kind)) ns (at ns i).parts (i + 1) None →
    (same_kind (at ns i).kind Concat ≡ true → Finds (wants Empty) ns (at ns i).parts (i + 1) None) → Joining ns i r → Changes ns i r
joins_change ns i (Some c) g one nest dead join s o q rest kept h = join q rest h
joins_change ns i None g one nest dead join s o (node k n p l ps) rest kept h =
    let v = whole_of ns i k n p l ps rest h in
    let kind : (at ns i).kind ≡ k = ap (λ (z : Node). z.kind) v.here in
    let many : (at ns i).parts ≡ count ps = ap (λ (z : Node). z.parts) v.here in
    no_rule k n ps (sym (ap gathers kind) ∙ g) (λ e. one (many ∙ e))
    (subst (λ (K : Kind). some_part (wants (Like K)) ps ≡ false) kind (nest ps rest (sym many) v.parts))
    (λ u. dead (ap (λ (K : Kind). same_kind K Concat) kind ∙ u) ps rest (sym many) v.parts) (join (node k n p l ps) rest h)

-- Nested repeats

strict_one : (k : Kind) (m : ℕ) → strict k ≡ true → parts_right k m ≡ true → m ≡ 1
strict_one Symbol m e h = absurd (false≢true e)
strict_one Any m e h = absurd (false≢true e)
strict_one Concat m e h = absurd (false≢true e)
strict_one Exact m e h = eqb-true m 1 h
strict_one Atleast m e h = eqb-true m 1 h
strict_one Atmost m e h = absurd (false≢true e)
strict_one In m e h = absurd (false≢true e)
strict_one Precisely m e h = absurd (false≢true e)
strict_one Noless m e h = absurd (false≢true e)
strict_one Nomore m e h = absurd (false≢true e)
strict_one And m e h = absurd (false≢true e)
strict_one Or m e h = absurd (false≢true e)
strict_one Inorder m e h = absurd (false≢true e)

-- an exact or atleast has a part
pub no_inner : (ns : List Node) (i : ℕ) → strict (at ns i).kind ≡ true → (at ns i).parts ≡ 0 → (r : Option Change) → Changes ns i r
no_inner ns i g z r s o (node k n p l ps) rest kept h =
    let v = whole_of ns i k n p l ps rest h in
    let a = keeps_parts s o k n p l ps kept in
    let one = strict_one k (count ps) (sym (ap (λ (x : Node). strict x.kind) v.here) ∙ g) a.parts in
    let many : (at ns i).parts ≡ count ps = ap (λ (x : Node). x.parts) v.here in
    absurd (omega arith)

-- whether a query stands alone, from its record and whether there is a window in it
pub alone_here : (ns : List Node) (i : ℕ) (w t : Bool) → w ≡ any_window (inner ns i) →
    t ≡ (strict (at ns i).kind && (ltb 0 (at ns i).number && not w)) → Alone ns i t
alone_here ns i w t window e (node k n p l ps) rest h =
    let v = whole_of ns i k n p l ps rest h in
    let inside : w ≡ windowed_each ps = window ∙ ap any_window (inner_is ns i k n p l ps rest h) ∙ window_records_each ps in
    e ∙ ap₂ (λ (x : Node) (u : Bool). strict x.kind && (ltb 0 x.number && not u)) v.here inside

-- the records of a query end inside the sheet
pub ends_inside : (ns : List Node) (i end : ℕ) → Stands ns i → Ends ns i end → (i + 1 ≤ end) × (end ≤ length ns)
ends_inside ns i end st ends = go st.1 st.3 (ends st.1 st.2 st.3)
  where
    go : (q : Query) → Here ns i q st.2 → end ≡ i + length (records q) → (i + 1 ≤ end) × (end ≤ length ns)
    go (node k n p l ps) h e =
        let a = size_node k n p l ps in
        let b = ap length h in
        let c = length-append (records (node k n p l ps)) st.2 in
        let d = length-drop i ns in
        (omega arith, omega arith)

-- no rule but that of nested repeats applies to an exact or atleast
no_other : (k : Kind) (n : ℕ) (q : Query) → strict k ≡ true → ((ltb 1 n && repeats (kind_of q)) || (eqb n 1 && stands_alone q)) ≡ false → applies_here k n (more q none) ≡ false
unfolding applies_here some_part
no_other k n q g e =
    or_from _ _ (and_left (gathers k) _ (other k g).0)
    (or_from _ _ (and_left (unordered k) _ (other k g).1)
    (or_from _ _ (and_left (gathers k) _ (other k g).0)
    (or_from _ _ (and_left (same_kind k Concat) _ (other k g).2)
    (or_from _ _ (and_left (same_kind k Concat) _ (other k g).2)
    (or_from _ _ (and_left (same_kind k Any) _ (other k g).3) (and_right (strict k) _ (or_from _ false e refl)))))))
  where
    other : (k : Kind) → strict k ≡ true → (gathers k ≡ false) × (unordered k ≡ false) × (same_kind k Concat ≡ false) × (same_kind k Any ≡ false)
    other Symbol e = absurd (false≢true e)
    other Any e = absurd (false≢true e)
    other Concat e = absurd (false≢true e)
    other Exact e = (refl, refl, refl, refl)
    other Atleast e = (refl, refl, refl, refl)
    other Atmost e = absurd (false≢true e)
    other In e = absurd (false≢true e)
    other Precisely e = absurd (false≢true e)
    other Noless e = absurd (false≢true e)
    other Nomore e = absurd (false≢true e)
    other And e = absurd (false≢true e)
    other Or e = absurd (false≢true e)
    other Inorder e = absurd (false≢true e)

nested_changed : (i : ℕ) (s : Stage) (o : Role) (k : Kind) (n p l : ℕ) (q : Query) (t u : Bool) → strict k ≡ true → keeps s o (node k n p l (more q none)) ≡ true →
    t ≡ repeats (kind_of q) → u ≡ stands_alone q → Changed i (node k n p l (more q none)) (nested_become n t u)
nested_changed i s o k n p l q t u g kept te ue = go (ltb 1 n && t) refl (eqb n 1 && u) refl
  where
    go : (x : Bool) → (ltb 1 n && t) ≡ x → (y : Bool) → (eqb n 1 && u) ≡ y → Changed i (node k n p l (more q none)) (cond x (Some Clear) (cond y (Some Lift) None))
    go true a y b =
        let c = and_parts (ltb 1 n) t a in
        (node Any 0 p l none, record { k = k; n = n; p = p; l = l; qs = more q none; was = refl; now_is = refl }, nested_shorter k n p l q g (ltb-true 1 n c.0) (sym te ∙ c.1))
    go false a true b =
        let c = and_parts (eqb n 1) u b in
        let one : n ≡ 1 = eqb-true n 1 c.0 in (
          q,
          record { k = k; n = n; p = p; l = l; was = refl },
          subst (λ (m : ℕ). Shorter (node k m p l (more q none)) q) (sym one)
              (lift_shorter k p l q s o g (sym ue ∙ c.1) (subst (λ (m : ℕ). keeps s o (node k m p l (more q none)) ≡ true) one kept)),
        )
    go false a false b =
        no_other k n q g (ap₂ (λ (x y : Bool). (ltb 1 n && x) || (eqb n 1 && y)) (sym te) (sym ue) ∙ or_from _ _ a b)

pub nested_change : (ns : List Node) (i : ℕ) (t u : Bool) (r : Option Change) → strict (at ns i).kind ≡ true → t ≡ repeats (at ns (i + 1)).kind → Alone ns (i + 1) u →
    r ≡ nested_become (at ns i).number t u → Changes ns i r
nested_change ns i t u r g te alone e s o (node k n p l ps) rest kept h =
    let v = whole_of ns i k n p l ps rest h in
    let strict-k = sym (ap (λ (z : Node). strict z.kind) v.here) ∙ g in
    let a = keeps_parts s o k n p l ps kept in
    let q = only_one ps (strict_one k (count ps) strict-k a.parts) in
    subst (λ (c : Option Change). Changed i (node k n p l ps) c) (sym (e ∙ ap (λ (z : Node). nested_become z.number t u) v.here))
    (inside strict-k q.0 q.1 v.parts)
  where
    inside : strict k ≡ true → (q : Query) → ps ≡ more q none → Row ns (i + 1) ps rest → Changed i (node k n p l ps) (nested_become n t u)
    inside sk (node K m p' l' rs) e row =
        let q = node K m p' l' rs in
        let here = row_head ns (i + 1) q none rest (subst (λ (qs : Queries). Row ns (i + 1) qs rest) e row) in
        let w = whole_of ns (i + 1) K m p' l' rs (records_each none ++ rest) here in
        subst (λ (qs : Queries). Changed i (node k n p l qs) (nested_become n t u)) (sym e)
        (nested_changed i s o k n p l q t u sk (subst (λ (qs : Queries). keeps s o (node k n p l qs) ≡ true) e kept)
        (te ∙ ap (λ (z : Node). repeats z.kind) w.here) (alone q (records_each none ++ rest) here))

-- no rule looks at other kinds
pub other_change : (ns : List Node) (i : ℕ) → gathers (at ns i).kind ≡ false → strict (at ns i).kind ≡ false → Changes ns i None
unfolding applies_here
other_change ns i g t s o (node k n p l ps) rest kept h =
    let v = whole_of ns i k n p l ps rest h in
    let gk : gathers k ≡ false = sym (ap (λ (z : Node). gathers z.kind) v.here) ∙ g in
    let tk : strict k ≡ false = sym (ap (λ (z : Node). strict z.kind) v.here) ∙ t in
    let a = or_parts (same_kind k Concat) (unordered k) gk in
    let b = or_parts (same_kind k Any) _ a.1 in
    or_from _ _ (and_left (gathers k) _ gk)
    (or_from _ _ (and_left (unordered k) _ a.1)
    (or_from _ _ (and_left (gathers k) _ gk)
    (or_from _ _ (and_left (same_kind k Concat) _ a.0)
    (or_from _ _ (and_left (same_kind k Concat) _ a.0)
    (or_from _ _ (and_left (same_kind k Any) _ b.0) (and_left (strict k) _ tk))))))
