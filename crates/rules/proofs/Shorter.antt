-- Each rule of tidying makes a query shorter and leaves alone what it fits and what it keeps.
use Rattle.std.proofs.Common.{◌≡◌, ℕ, ◌<◌, ◌≤◌, min, max, Bool, true, false, cond, ◌&&◌, ◌||◌, eqb, ltb, leb, List, length, sym, refl, ap, ◌∙◌, subst, arith}
use Rattle.std.proofs.lemmas.Bool.{and_parts, and_from, ltb-true, lt-ltb, leb-true, le-leb, false≢true}
use Rattle.query.specs.declared.node.Kind.{Kind}
use Rattle.query.specs.declared.node.Kind.TheVariants.{Symbol, Any, Concat, Exact, Atleast, Atmost, In, Precisely, Noless, Nomore, And, Or, Inorder}
use Rattle.query.specs.declared.node.Role.{Role}
use Rattle.query.specs.declared.node.Role.TheVariants.{Shape, Window, Count}
use Rattle.query.specs.declared.node.Stage.{Stage}
use Rattle.query.specs.Kinds.{kind_number, same_kind}
use Rattle.query.specs.Tree.{Query, node, Queries, none, more, count, records, records_each, levels, alike}
use Rattle.query.specs.Rules.{allows, part_role, parts_right, number_right, keeps, keeps_each}
use Rattle.rules.specs.Applies.{kind_of, number_of, repeats, unordered, gathers, over_one, empty, merges, stands_alone}
use Rattle.rules.specs.Parts.{join, merged_kind, merged_number, renamed}
use Rattle.rules.specs.Laws.{FitAlike}
use Rattle.rules.specs.Shorter.{Shorter}
use Rattle.rules.proofs.Parts.{count_join, size_join, size_more, size_node, levels_join, levels_more, levels_node, keeps_join}
use Rattle.rules.proofs.Cases.{on_repeats, on_gathers, on_unordered, merge_counts}
use Rattle.rules.proofs.Sound.{part_by_part, unnesting, doubles, single_part, dead_sequence, neighbours_go, neighbours_dead, alternatives, nested_dies, nested_go}

-- what a query keeps: its kind may stand here, with so many parts and such a number, and its parts may stand there
pub record Keeps (s : Stage) (o : Role) (k : Kind) (n p l : ℕ) (qs : Queries) : Type 0 where
  pub stands : allows o k ≡ true
  pub parts : parts_right k (count qs) ≡ true
  pub number : number_right s k n p l ≡ true
  pub each : keeps_each s (part_role k) qs ≡ true

module _ (s : Stage) (o : Role) where
  pub keeps_parts : (k : Kind) (n p l : ℕ) (qs : Queries) → keeps s o (node k n p l qs) ≡ true → Keeps s o k n p l qs
  unfolding keeps
  keeps_parts k n p l qs e =
      let a = and_parts _ _ e in
      let b = and_parts (allows o k) _ a.0 in
      let c = and_parts (parts_right k (count qs)) _ b.1 in
      record { stands = b.0; parts = c.0; number = c.1; each = a.1 }

  pub keeps_from : (k : Kind) (n p l : ℕ) (qs : Queries) → Keeps s o k n p l qs → keeps s o (node k n p l qs) ≡ true
  unfolding keeps
  keeps_from k n p l qs h =
      and_from _ _ (and_from (allows o k) _ h.stands (and_from (parts_right k (count qs)) _ h.parts h.number)) h.each

  -- what rows of parts keep, together and one by one
  pub both_keep : (qs rs : Queries) → keeps_each s o qs ≡ true → keeps_each s o rs ≡ true → keeps_each s o (join qs rs) ≡ true
  both_keep qs rs a b = keeps_join s o qs rs ∙ and_from _ _ a b

  pub each_keeps : (qs rs : Queries) → keeps_each s o (join qs rs) ≡ true → (keeps_each s o qs ≡ true) × (keeps_each s o rs ≡ true)
  each_keeps qs rs e = and_parts _ _ (sym (keeps_join s o qs rs) ∙ e)

  pub more_keeps : (q : Query) (qs : Queries) → keeps_each s o (more q qs) ≡ true → (keeps s o q ≡ true) × (keeps_each s o qs ≡ true)
  unfolding keeps
  more_keeps q qs e = and_parts _ _ e

  pub keeps_more : (q : Query) (qs : Queries) → keeps s o q ≡ true → keeps_each s o qs ≡ true → keeps_each s o (more q qs) ≡ true
  unfolding keeps
  keeps_more q qs a b = and_from _ _ a b

-- a part becomes shorter, and so the whole
pub shorter_in : (k : Kind) (n p l : ℕ) (qs ts : Queries) (q r : Query) → Shorter q r →
    Shorter (node k n p l (join qs (more q ts))) (node k n p l (join qs (more r ts)))
shorter_in k n p l qs ts q r h = record {
  same = λ words. part_by_part words k n p l qs ts q r (h.same words);
  fewer =
      let a = size_node k n p l (join qs (more q ts)) in
      let b = size_node k n p l (join qs (more r ts)) in
      let c = size_join qs (more q ts) in
      let d = size_join qs (more r ts) in
      let e = size_more q ts in
      let f = size_more r ts in
      omega arith;
  flatter =
      let a = levels_node k n p l (join qs (more q ts)) in
      let b = levels_node k n p l (join qs (more r ts)) in
      let c = levels_join qs (more q ts) in
      let d = levels_join qs (more r ts) in
      let e = levels_more q ts in
      let f = levels_more r ts in
      omega arith;
  kept = λ s o e.
      let a = keeps_parts s o k n p l _ e in
      let b = each_keeps s (part_role k) qs (more q ts) a.each in
      let c = more_keeps s (part_role k) q ts b.1 in
      keeps_from s o k n p l _ (record {
        stands = a.stands;
        parts = ap (parts_right k) (count_join qs (more r ts) ∙ sym (count_join qs (more q ts))) ∙ a.parts;
        number = a.number;
        each = both_keep s (part_role k) qs (more r ts) b.0 (keeps_more s (part_role k) r ts (h.kept s (part_role k) c.0) c.1);
      });
}

-- any, concat, and, or take any count of parts but none
gathers_some : (k : Kind) (m : ℕ) → gathers k ≡ true → 0 < m → parts_right k m ≡ true
gathers_some k m g l =
    on_gathers (λ K. parts_right K m ≡ true) (lt-ltb 0 m l) refl (lt-ltb 0 m l) (lt-ltb 0 m l) k g

unordered_gathers : (k : Kind) → unordered k ≡ true → gathers k ≡ true
unordered_gathers k g = on_unordered (λ K. gathers K ≡ true) refl refl refl k g

pub unnest_shorter : (k : Kind) (n p l m p' l' : ℕ) (qs rs ts : Queries) (s : Stage) (o : Role) → gathers k ≡ true →
    keeps s o (node k n p l (join qs (more (node k m p' l' rs) ts))) ≡ true →
    Shorter (node k n p l (join qs (more (node k m p' l' rs) ts))) (node k n p l (join qs (join rs ts)))
unnest_shorter k n p l m p' l' qs rs ts s o g e = record {
  same = λ words. unnesting words k n p l m p' l' qs rs ts g (λ is. some_inner s o e is);
  fewer =
      let a = size_node k n p l (join qs (more inner ts)) in
      let b = size_node k n p l (join qs (join rs ts)) in
      let c = size_join qs (more inner ts) in
      let d = size_join qs (join rs ts) in
      let e = size_more inner ts in
      let f = size_join rs ts in
      let g = size_node k m p' l' rs in
      omega arith;
  flatter =
      let a = levels_node k n p l (join qs (more inner ts)) in
      let b = levels_node k n p l (join qs (join rs ts)) in
      let c = levels_join qs (more inner ts) in
      let d = levels_join qs (join rs ts) in
      let e = levels_more inner ts in
      let f = levels_join rs ts in
      let g = levels_node k m p' l' rs in
      omega arith;
  kept = λ s o e.
      let a = keeps_parts s o k n p l _ e in
      let b = each_keeps s (part_role k) qs (more inner ts) a.each in
      let c = more_keeps s (part_role k) inner ts b.1 in
      let d = keeps_parts s (part_role k) k m p' l' rs c.0 in
      keeps_from s o k n p l _ (record {
        stands = a.stands;
        parts = on_gathers (λ K. parts_right K (count rs) ≡ true → parts_right K (count (join qs (join rs ts))) ≡ true) some_parts (λ _. refl) some_parts some_parts k g d.parts;
        number = a.number;
        each = both_keep s (part_role k) qs (join rs ts) b.0 (both_keep s (part_role k) rs ts d.each c.1);
      });
}
  where
    inner : Query
    inner = node k m p' l' rs

    some_parts : ltb 0 (count rs) ≡ true → ltb 0 (count (join qs (join rs ts))) ≡ true
    some_parts e =
        let l = ltb-true 0 (count rs) e in
        let a = count_join qs (join rs ts) in
        let b = count_join rs ts in
        lt-ltb 0 (count (join qs (join rs ts))) (omega arith)

    some_inner : (s : Stage) (o : Role) → keeps s o (node k n p l (join qs (more inner ts))) ≡ true → k ≡ Concat → 0 < count rs
    some_inner s o e is =
        let a = keeps_parts s o k n p l _ e in
        let b = each_keeps s (part_role k) qs (more inner ts) a.each in
        let c = more_keeps s (part_role k) inner ts b.1 in
        let d = keeps_parts s (part_role k) k m p' l' rs c.0 in
        ltb-true 0 (count rs) (subst (λ (K : Kind). parts_right K (count rs) ≡ true) is d.parts)

-- a part goes, behind another that may change its kind and number
goes : (k : Kind) (n p l : ℕ) (qs rs ts : Queries) (q q' r : Query) → gathers k ≡ true →
    ((words : List ℕ) → FitAlike words (node k n p l (join qs (more q (join rs (more r ts))))) (node k n p l (join qs (more q' (join rs ts))))) →
    length (records q') ≡ length (records q) → levels q' ≡ levels q →
    ((s : Stage) → keeps s (part_role k) q ≡ true → keeps s (part_role k) r ≡ true → keeps s (part_role k) q' ≡ true) →
    Shorter (node k n p l (join qs (more q (join rs (more r ts))))) (node k n p l (join qs (more q' (join rs ts))))
goes k n p l qs rs ts q q' r g fit long deep keep = record {
  same = fit;
  fewer =
      let a = size_node k n p l (join qs (more q (join rs (more r ts)))) in
      let b = size_node k n p l (join qs (more q' (join rs ts))) in
      let c = size_join qs (more q (join rs (more r ts))) in
      let d = size_join qs (more q' (join rs ts)) in
      let e = size_more q (join rs (more r ts)) in
      let f = size_more q' (join rs ts) in
      let g = size_join rs (more r ts) in
      let h = size_join rs ts in
      let i = size_more r ts in
      let j = some_record r in
      omega arith;
  flatter =
      let a = levels_node k n p l (join qs (more q (join rs (more r ts)))) in
      let b = levels_node k n p l (join qs (more q' (join rs ts))) in
      let c = levels_join qs (more q (join rs (more r ts))) in
      let d = levels_join qs (more q' (join rs ts)) in
      let e = levels_more q (join rs (more r ts)) in
      let f = levels_more q' (join rs ts) in
      let g = levels_join rs (more r ts) in
      let h = levels_join rs ts in
      let i = levels_more r ts in
      omega arith;
  kept = λ s o e.
      let a = keeps_parts s o k n p l _ e in
      let b = each_keeps s (part_role k) qs (more q (join rs (more r ts))) a.each in
      let c = more_keeps s (part_role k) q (join rs (more r ts)) b.1 in
      let d = each_keeps s (part_role k) rs (more r ts) c.1 in
      let f = more_keeps s (part_role k) r ts d.1 in
      let m = count_join qs (more q' (join rs ts)) in
      keeps_from s o k n p l _ (record {
        stands = a.stands;
        parts = gathers_some k _ g (omega arith);
        number = a.number;
        each = both_keep s (part_role k) qs (more q' (join rs ts)) b.0
            (keeps_more s (part_role k) q' (join rs ts) (keep s c.0 f.0) (both_keep s (part_role k) rs ts d.0 f.1));
      });
}
  where
    some_record : (r : Query) → 0 < length (records r)
    some_record (node k n p l qs) = let a = size_node k n p l qs in omega arith

pub double_shorter : (k : Kind) (n p l : ℕ) (qs rs ts : Queries) (q r : Query) → unordered k ≡ true → alike q r ≡ true →
    Shorter (node k n p l (join qs (more q (join rs (more r ts))))) (node k n p l (join qs (more q (join rs ts))))
double_shorter k n p l qs rs ts q r g e =
    goes k n p l qs rs ts q q r (unordered_gathers k g) (λ words. doubles words k n p l qs rs ts q r g e) refl refl (λ s a b. a)

pub neighbour_shorter : (n p l : ℕ) (qs ts : Queries) (q r : Query) → over_one q r ≡ true →
    (same_kind (kind_of r) Atmost || eqb (number_of r) 0) ≡ true →
    Shorter (node Concat n p l (join qs (more q (more r ts)))) (node Concat n p l (join qs (more q ts)))
neighbour_shorter n p l qs ts q r o z =
    goes Concat n p l qs none ts q q r refl (λ words. neighbours_go words n p l qs ts q r o z) refl refl (λ s a b. a)

-- a repeat with another kind and a number that fits
repeat_keeps : (s : Stage) (M O : Kind) (m o p l : ℕ) (ps : Queries) → repeats M ≡ true → repeats O ≡ true → o ≤ 255 →
    keeps s Shape (node M m p l ps) ≡ true → keeps s Shape (node O o p l ps) ≡ true
repeat_keeps s M O m o p l ps rM rO u e =
    let a = keeps_parts s Shape M m p l ps e in
    keeps_from s Shape O o p l ps (record {
      stands = on_repeats (λ K. allows Shape K ≡ true) refl refl refl O rO;
      parts = on_repeats (λ K. parts_right K (count ps) ≡ true) (one a.parts) (one a.parts) (one a.parts) O rO;
      number = on_repeats (λ K. number_right s K o p l ≡ true) (le-leb o 255 u) (le-leb o 255 u) (le-leb o 255 u) O rO;
      each = on_repeats (λ K. keeps_each s (part_role K) ps ≡ true) (shapes a.each) (shapes a.each) (shapes a.each) O rO;
    })
  where
    one : parts_right M (count ps) ≡ true → eqb (count ps) 1 ≡ true
    one = on_repeats (λ K. parts_right K (count ps) ≡ true → eqb (count ps) 1 ≡ true) (λ e. e) (λ e. e) (λ e. e) M rM

    shapes : keeps_each s (part_role M) ps ≡ true → keeps_each s Shape ps ≡ true
    shapes = on_repeats (λ K. keeps_each s (part_role K) ps ≡ true → keeps_each s Shape ps ≡ true) (λ e. e) (λ e. e) (λ e. e) M rM

repeat_number : (s : Stage) (M : Kind) (m p l : ℕ) (ps : Queries) → repeats M ≡ true → keeps s Shape (node M m p l ps) ≡ true → m ≤ 255
repeat_number s M m p l ps r e =
    let a = keeps_parts s Shape M m p l ps e in
    leb-true m 255 (on_repeats (λ K. number_right s K m p l ≡ true → leb m 255 ≡ true) (λ e. e) (λ e. e) (λ e. e) M r a.number)

pub alternative_shorter : (n p l : ℕ) (qs rs ts : Queries) (q r : Query) → over_one q r ≡ true →
    merges (kind_of q) (number_of q) (kind_of r) (number_of r) ≡ true →
    Shorter (node Any n p l (join qs (more q (join rs (more r ts)))))
    (node Any n p l
    (join qs (more (renamed q (merged_kind (kind_of q) (kind_of r)) (merged_number (kind_of q) (number_of q) (kind_of r) (number_of r))) (join rs ts))))
alternative_shorter n p l qs rs ts (node M m p₁ l₁ ps) (node N k p₂ l₂ os) o g =
    goes Any n p l qs rs ts (node M m p₁ l₁ ps) (node (merged_kind M N) (merged_number M m N k) p₁ l₁ ps) (node N k p₂ l₂ os) refl
    (λ words. alternatives words n p l qs rs ts (node M m p₁ l₁ ps) (node N k p₂ l₂ os) o g)
    (size_node (merged_kind M N) (merged_number M m N k) p₁ l₁ ps ∙ sym (size_node M m p₁ l₁ ps))
    (levels_node (merged_kind M N) (merged_number M m N k) p₁ l₁ ps ∙ sym (levels_node M m p₁ l₁ ps))
    (λ s a b.
    repeat_keeps s M (merged_kind M N) m (merged_number M m N k) p₁ l₁ ps rM (merge_counts m k M N rM rN g).0
    (small (same_kind M Atleast || same_kind N Atleast) (same_kind M Atmost || same_kind N Atmost) (repeat_number s M m p₁ l₁ ps rM a) (repeat_number s N k p₂ l₂ os rN b)) a)
  where
    rM : repeats M ≡ true
    rM = (and_parts (repeats M) (repeats N) (and_parts (repeats M && repeats N) _ o).0).0

    rN : repeats N ≡ true
    rN = (and_parts (repeats M) (repeats N) (and_parts (repeats M && repeats N) _ o).0).1

    small : (x y : Bool) → m ≤ 255 → k ≤ 255 → cond x (cond y 0 (min m k)) (max m k) ≤ 255
    small true true a b = omega arith
    small true false a b = omega arith
    small false y a b = omega arith

-- a whole becomes its only part, where that may stand in its place
lifted : (k : Kind) (n p l : ℕ) (q : Query) → ((words : List ℕ) → FitAlike words (node k n p l (more q none)) q) →
    ((s : Stage) (o : Role) → allows o k ≡ true → keeps s (part_role k) q ≡ true → keeps s o q ≡ true) →
    Shorter (node k n p l (more q none)) q
lifted k n p l q fit stand = record {
  same = fit;
  fewer = let a = size_node k n p l (more q none) in let b = size_more q none in omega arith;
  flatter = let a = levels_node k n p l (more q none) in let b = levels_more q none in omega arith;
  kept = λ s o e.
      let a = keeps_parts s o k n p l (more q none) e in
      stand s o a.stands (more_keeps s (part_role k) q none a.each).0;
}

-- a shape stands in the place of a shape, and a count in the place of a count or of a window's part
shape_stands : (k : Kind) → leb (kind_number k) 6 ≡ true → (o : Role) → allows o k ≡ true → o ≡ Shape
shape_stands k e Shape a = refl
shape_stands k e Window a = let x = leb-true (kind_number k) 6 e in let y = leb-true 7 (kind_number k) a in absurd (omega arith)
shape_stands k e Count a =
    let x = leb-true (kind_number k) 6 e in
    let y = leb-true 7 (kind_number k) (and_parts _ _ a).0 in
    absurd (omega arith)

shape_lifts : (k : Kind) (q : Query) → leb (kind_number k) 6 ≡ true → part_role k ≡ Shape →
    (s : Stage) (o : Role) → allows o k ≡ true → keeps s (part_role k) q ≡ true → keeps s o q ≡ true
shape_lifts k q e r s o a b =
    subst (λ (x : Role). keeps s x q ≡ true) (sym (shape_stands k e o a)) (subst (λ (x : Role). keeps s x q ≡ true) r b)

count_lifts : (k : Kind) (q : Query) → leb 7 (kind_number k) ≡ true → (s : Stage) (o : Role) → allows o k ≡ true → keeps s Count q ≡ true → keeps s o q ≡ true
count_lifts k q e s Shape a b = let x = leb-true 7 (kind_number k) e in let y = leb-true (kind_number k) 6 a in absurd (omega arith)
count_lifts k (node K n p l qs) e s Window a b =
    let h = keeps_parts s Count K n p l qs b in
    keeps_from s Window K n p l qs (record { stands = (and_parts _ _ h.stands).0; parts = h.parts; number = h.number; each = h.each })
count_lifts k q e s Count a b = b

pub single_shorter : (k : Kind) (n p l : ℕ) (q : Query) → gathers k ≡ true → Shorter (node k n p l (more q none)) q
single_shorter k n p l q g =
    lifted k n p l q (λ words. single_part words k n p l q g)
    (on_gathers (λ K. (s : Stage) (o : Role) → allows o K ≡ true → keeps s (part_role K) q ≡ true → keeps s o q ≡ true)
    (shape_lifts Concat q refl refl) (shape_lifts Any q refl refl) (count_lifts And q refl) (count_lifts Or q refl) k g)

-- exact and atleast
abbrev pub Strict : Kind → Type 0
Strict k = (same_kind k Exact || same_kind k Atleast) ≡ true

strict : (k : Kind) → Strict k → (repeats k ≡ true) × (leb (kind_number k) 6 ≡ true) × (part_role k ≡ Shape)
strict Symbol e = absurd (false≢true e)
strict Any e = absurd (false≢true e)
strict Concat e = absurd (false≢true e)
strict Exact e = (refl, refl, refl)
strict Atleast e = (refl, refl, refl)
strict Atmost e = absurd (false≢true e)
strict In e = absurd (false≢true e)
strict Precisely e = absurd (false≢true e)
strict Noless e = absurd (false≢true e)
strict Nomore e = absurd (false≢true e)
strict And e = absurd (false≢true e)
strict Or e = absurd (false≢true e)
strict Inorder e = absurd (false≢true e)

pub lift_shorter : (k : Kind) (p l : ℕ) (q : Query) (s : Stage) (o : Role) → Strict k → stands_alone q ≡ true →
    keeps s o (node k 1 p l (more q none)) ≡ true → Shorter (node k 1 p l (more q none)) q
lift_shorter k p l q s o g alone e =
    let h = strict k g in
    let a = keeps_parts s o k 1 p l (more q none) e in
    let b = subst (λ (x : Role). keeps s x q ≡ true) h.2 (more_keeps s (part_role k) q none a.each).0 in
    lifted k 1 p l q (λ words. nested_go words k p l q s g b alone) (shape_lifts k q h.1 h.2)

-- a whole that fits nothing becomes `(any)`
dead : (k : Kind) (n p l : ℕ) (qs : Queries) → leb (kind_number k) 6 ≡ true → 0 < length (records_each qs) →
    ((words : List ℕ) → FitAlike words (node k n p l qs) (node Any 0 p l none)) → Shorter (node k n p l qs) (node Any 0 p l none)
unfolding records levels keeps
dead k n p l qs e some fit = record {
  same = fit;
  fewer = let a = size_node k n p l qs in omega arith;
  flatter = let a = levels_node k n p l qs in omega arith;
  kept = λ s o h.
      let a = keeps_parts s o k n p l qs h in
      subst (λ (x : Role). keeps s x (node Any 0 p l none) ≡ true) (sym (shape_stands k e o a.stands)) refl;
}

some_there : (qs ts : Queries) (q : Query) → 0 < length (records_each (join qs (more q ts)))
some_there qs ts (node k n p l rs) =
    let a = size_join qs (more (node k n p l rs) ts) in
    let b = size_more (node k n p l rs) ts in
    let c = size_node k n p l rs in
    omega arith

pub dead_shorter : (n p l : ℕ) (qs ts : Queries) (q : Query) → empty q ≡ true →
    Shorter (node Concat n p l (join qs (more q ts))) (node Any 0 p l none)
dead_shorter n p l qs ts q e = dead Concat n p l (join qs (more q ts)) refl (some_there qs ts q) (λ words. dead_sequence words n p l qs ts q e)

pub neighbours_shorter : (n p l : ℕ) (qs ts : Queries) (q r : Query) → over_one q r ≡ true →
    (same_kind (kind_of r) Atmost || eqb (number_of r) 0) ≡ false →
    Shorter (node Concat n p l (join qs (more q (more r ts)))) (node Any 0 p l none)
neighbours_shorter n p l qs ts q r o z =
    dead Concat n p l (join qs (more q (more r ts))) refl (some_there qs (more r ts) q) (λ words. neighbours_dead words n p l qs ts q r o z)

pub nested_shorter : (k : Kind) (n p l : ℕ) (q : Query) → Strict k → 1 < n → repeats (kind_of q) ≡ true →
    Shorter (node k n p l (more q none)) (node Any 0 p l none)
nested_shorter k n p l q g t r =
    dead k n p l (more q none) (strict k g).1 (some_there none none q) (λ words. nested_dies words k n p l q g t r)
