-- Each rule of tidying leaves alone what a query fits.
use Rattle.std.proofs.Common.{◌≡◌, ℕ, suc, ◌<◌, ◌≤◌, Bool, true, false, ◌&&◌, ◌||◌, List, [], ◌∷◌, ◌++◌, length, sym, refl, ap, ◌∙◌, subst, arith}
use Rattle.std.proofs.lemmas.Bool.{and_parts, not-true, eqb-true, ltb-true, false≢true}
use Rattle.query.specs.declared.node.Kind.{Kind}
use Rattle.query.specs.declared.node.Kind.TheVariants.{Symbol, Any, Concat, Exact, Atleast, Atmost, In, Precisely, Noless, Nomore, And, Or, Inorder}
use Rattle.query.specs.declared.node.Role.{Role}
use Rattle.query.specs.declared.node.Role.TheVariants.{Shape}
use Rattle.query.specs.declared.node.Stage.{Stage}
use Rattle.query.specs.Kinds.{same_kind}
use Rattle.query.specs.Tree.{Query, node, Queries, none, more, count}
use Rattle.query.specs.Rules.{part_role, keeps, keeps_each}
use Rattle.query.proofs.Alike.{same_kind_is}
use Rattle.shape.specs.Fits.{Rule, only, sequence, whole, fits, fits_each}
use Rattle.rules.specs.Applies.{repeats, empty, windowed_each}
use Rattle.rules.specs.Parts.{join, merged_kind, merged_number}
use Rattle.rules.specs.Laws.{PartByPart, EqualFitAlike, Unnesting, Doubles, SinglePart, DeadSequence, NeighbourGoes, NeighboursDead, Alternatives, NestedDead, NestedGoes}
use Rattle.rules.proofs.Agree.{Agree, AgreeEach, some_agree, whole_agree}
use Rattle.rules.proofs.Choice.{one_flat, all_flat, one_joined, all_joined}
use Rattle.rules.proofs.Sequence.{meet, meet_decides, behind, dead_behind, dead_head, sequence_flat}
use Rattle.rules.proofs.Repeats.{repeats_joined, neighbour_goes, neighbour_dead, nested_dead, nested_goes}
use Rattle.rules.proofs.Own.{Own, own_each}
use Rattle.rules.proofs.Parts.{fits_join, alike_fits, alike_fits_each}
use Rattle.rules.proofs.Cases.{on_unordered, on_gathers, merge_counts, may_be_null, never_null, not_fewer}

-- a Bool that is never true
is_false : (t : Bool) → (t ≡ true → ⊥) → t ≡ false
is_false true h = absurd (h refl)
is_false false h = refl

or_same : (t : Bool) → (t || t) ≡ t
or_same true = refl
or_same false = refl

and_same : (t : Bool) → (t && t) ≡ t
and_same true = refl
and_same false = refl

or_end : (t : Bool) → (t || false) ≡ t
or_end true = refl
or_end false = refl

and_end : (t : Bool) → (t && true) ≡ t
and_end true = refl
and_end false = refl

agree_refl : (n : ℕ) (Ps : List Rule) → AgreeEach n Ps Ps
agree_refl n [] = tt
agree_refl n (P ∷ Ps) = ((λ s a b l. refl), agree_refl n Ps)

-- one part among others is replaced
agree_at : (n : ℕ) (As Cs : List Rule) (P Q : Rule) → Agree n P Q → AgreeEach n (As ++ (P ∷ Cs)) (As ++ (Q ∷ Cs))
agree_at n [] Cs P Q h = (h, agree_refl n Cs)
agree_at n (A ∷ As) Cs P Q h = ((λ s a b l. refl), agree_at n As Cs P Q h)

module _ (words : List ℕ) (k : Kind) (n p l s a b : ℕ) where
  -- what a whole fits, from what two rows of parts fit
  laid : (qs rs : Queries) → fits words (node k n p l (join qs rs)) s a b ≡ whole words k n (fits_each words qs ++ fits_each words rs) s a b
  unfolding fits
  laid qs rs = ap (λ (Ps : List Rule). whole words k n Ps s a b) (fits_join words qs rs)

  -- and from a row, a part and two more rows
  laid_around : (qs rs ts : Queries) (q : Query) →
      fits words (node k n p l (join qs (more q (join rs ts)))) s a b
      ≡ whole words k n (fits_each words qs ++ (fits words q ∷ (fits_each words rs ++ fits_each words ts))) s a b
  unfolding fits
  laid_around qs rs ts q =
      laid qs (more q (join rs ts))
      ∙ ap (λ (Ps : List Rule). whole words k n (fits_each words qs ++ (fits words q ∷ Ps)) s a b) (fits_join words rs ts)

pub part_by_part : PartByPart
unfolding fits
part_by_part words k n p l qs ts q r h s a b u =
    laid words k n p l s a b qs (more q ts)
    ∙ whole_agree words k n (fits_each words qs ++ (fits words q ∷ fits_each words ts)) (fits_each words qs ++ (fits words r ∷ fits_each words ts))
    (agree_at (length words) (fits_each words qs) (fits_each words ts) (fits words q) (fits words r) h) s a b u
    ∙ sym (laid words k n p l s a b qs (more r ts))

pub equal_fit_alike : EqualFitAlike
equal_fit_alike words q r e s a b u = ap (λ (P : Rule). P s a b) (alike_fits words q r e)

-- Unnesting

sequence_unnest : (As Bs Cs : List Rule) (s a b : ℕ) → 0 < length Bs → sequence (As ++ (sequence Bs ∷ Cs)) s a b ≡ sequence (As ++ (Bs ++ Cs)) s a b
sequence_unnest As [] Cs s a b l = absurd (omega arith)
sequence_unnest As (B ∷ Bs) Cs s a b l =
    behind b As (sequence (B ∷ Bs)) B Cs (Bs ++ Cs) (λ s a b _. sequence_flat B Bs Cs s a b) s a b (omega arith)

each_count : (words : List ℕ) (qs : Queries) → length (fits_each words qs) ≡ count qs
unfolding fits
each_count words none = refl
each_count words (more q qs) = ap suc (each_count words qs)

pub unnesting : Unnesting
unfolding fits
unnesting words k n p l m p' l' qs rs ts g c s a b u =
    laid words k n p l s a b qs (more (node k m p' l' rs) ts)
    ∙ on_gathers
    (λ K. (K ≡ Concat → 0 < count rs) → whole words K n (As ++ (whole words K m Bs ∷ Cs)) s a b ≡ whole words K n (As ++ (Bs ++ Cs)) s a b)
    (λ c. let z = c refl in let e = each_count words rs in sequence_unnest As Bs Cs s a b (omega arith))
    (λ _. one_flat As Bs Cs s a b) (λ _. all_flat As Bs Cs s a b) (λ _. one_flat As Bs Cs s a b) k g c
    ∙ ap (λ (Ps : List Rule). whole words k n (As ++ Ps) s a b) (sym (fits_join words rs ts))
    ∙ sym (laid words k n p l s a b qs (join rs ts))
  where
    As : List Rule
    As = fits_each words qs

    Bs : List Rule
    Bs = fits_each words rs

    Cs : List Rule
    Cs = fits_each words ts

-- Doubles

pub doubles : Doubles
unfolding fits
doubles words k n p l qs rs ts q r g e s a b u =
    laid_around words k n p l s a b qs rs (more r ts) q
    ∙ on_unordered (λ K. whole words K n (As ++ (fits words q ∷ (Bs ++ (fits words r ∷ Cs)))) s a b ≡ whole words K n (As ++ (fits words q ∷ (Bs ++ Cs))) s a b)
    (one_joined As Bs Cs s a b (fits words q) (fits words r) (fits words q) either)
    (all_joined As Bs Cs s a b (fits words q) (fits words r) (fits words q) both)
    (one_joined As Bs Cs s a b (fits words q) (fits words r) (fits words q) either) k g
    ∙ sym (laid_around words k n p l s a b qs rs ts q)
  where
    As : List Rule
    As = fits_each words qs

    Bs : List Rule
    Bs = fits_each words rs

    Cs : List Rule
    Cs = fits_each words ts

    same : fits words r s a b ≡ fits words q s a b
    same = ap (λ (P : Rule). P s a b) (sym (alike_fits words q r e))

    either : (fits words q s a b || fits words r s a b) ≡ fits words q s a b
    either = ap (λ (t : Bool). fits words q s a b || t) same ∙ or_same (fits words q s a b)

    both : (fits words q s a b && fits words r s a b) ≡ fits words q s a b
    both = ap (λ (t : Bool). fits words q s a b && t) same ∙ and_same (fits words q s a b)

-- Single part

pub single_part : SinglePart
unfolding fits sequence
single_part words k n p l q g s a b u =
    on_gathers (λ K. whole words K n (fits words q ∷ []) s a b ≡ fits words q s a b) refl (or_end (fits words q s a b))
    (and_end (fits words q s a b)) (or_end (fits words q s a b)) k g

-- Dead sequence

-- `(any)` fits nothing
empty_fits : (words : List ℕ) (q : Query) → empty q ≡ true → (s a b : ℕ) → fits words q s a b ≡ true → ⊥
unfolding fits
empty_fits words (node k n p l none) e s a b f =
    let h = same_kind_is k Any (and_parts (same_kind k Any) _ e).0 in
    false≢true (sym (ap (λ (K : Kind). whole words K n [] s a b) h) ∙ f)
empty_fits words (node k n p l (more q qs)) e s a b f = let z = eqb-true (suc (count qs)) 0 (and_parts (same_kind k Any) _ e).1 in omega arith

pub dead_sequence : DeadSequence
unfolding fits
dead_sequence words n p l qs ts q e s a b u =
    laid words Concat n p l s a b qs (more q ts)
    ∙ is_false (sequence (fits_each words qs ++ (fits words q ∷ fits_each words ts)) s a b)
    (dead_behind b (fits_each words qs) (fits words q) (fits_each words ts)
    (λ s a b _. dead_head (fits words q) (fits_each words ts) (empty_fits words q e) s a b) s a b (omega arith))

-- Neighbours

-- a part and its neighbour become one rule that stands at the head of what follows
heads_agree : (N : ℕ) (Q R : Rule) (Cs : List Rule) → ((s a b : ℕ) → b ≤ N → meet Q R s a b ≡ Q s a b) →
    Agree N (sequence (Q ∷ (R ∷ Cs))) (sequence (Q ∷ Cs))
unfolding sequence
heads_agree N Q R [] h s a b u = h s a b u
heads_agree N Q R (C ∷ Cs) h s a b u =
    sym (sequence_flat Q (R ∷ []) (C ∷ Cs) s a b)
    ∙ some_agree (λ c. meet Q R s a c && sequence (C ∷ Cs) c c b) (λ c. Q s a c && sequence (C ∷ Cs) c c b) a (suc b)
    (λ c _ v. ap (λ (t : Bool). t && sequence (C ∷ Cs) c c b) (h s a c (omega arith)))

heads_dead : (N : ℕ) (Q R : Rule) (Cs : List Rule) → ((s a c d : ℕ) → d ≤ N → Q s a c ≡ true → R c c d ≡ true → ⊥) →
    (s a b : ℕ) → b ≤ N → sequence (Q ∷ (R ∷ Cs)) s a b ≡ true → ⊥
unfolding sequence
heads_dead N Q R [] h s a b u e = let m = (meet_decides Q R s a b).0 e in h s a m.0 b u m.3 m.4
heads_dead N Q R (C ∷ Cs) h s a b u e =
    let m = (meet_decides Q (meet R (sequence (C ∷ Cs))) s a b).0 e in
    let k = (meet_decides R (sequence (C ∷ Cs)) m.0 m.0 b).0 m.4 in
    let v = k.2 in
    h s a m.0 k.0 (omega arith) m.3 k.3

pub neighbours_go : NeighbourGoes
unfolding fits
neighbours_go words n p l qs ts (node M m p₁ l₁ ps) (node N k p₂ l₂ rs) o z s a b u =
    laid words Concat n p l s a b qs (more (node M m p₁ l₁ ps) (more (node N k p₂ l₂ rs) ts))
    ∙ behind (length words) (fits_each words qs) (whole words M m Ps) (whole words M m Ps) (whole words N k (fits_each words rs) ∷ fits_each words ts) (fits_each words ts)
    (heads_agree (length words) (whole words M m Ps) (whole words N k (fits_each words rs)) (fits_each words ts) both) s a b u
    ∙ sym (laid words Concat n p l s a b qs (more (node M m p₁ l₁ ps) ts))
  where
    Ps : List Rule
    Ps = fits_each words ps

    same : Ps ≡ fits_each words rs
    same = alike_fits_each words ps rs (and_parts (repeats M && repeats N) _ o).1

    rM : repeats M ≡ true
    rM = (and_parts (repeats M) (repeats N) (and_parts (repeats M && repeats N) _ o).0).0

    rN : repeats N ≡ true
    rN = (and_parts (repeats M) (repeats N) (and_parts (repeats M && repeats N) _ o).0).1

    both : (s a b : ℕ) → b ≤ length words → meet (whole words M m Ps) (whole words N k (fits_each words rs)) s a b ≡ whole words M m Ps s a b
    both s a b v =
        subst (λ (Rs : List Rule). meet (whole words M m Ps) (whole words N k Rs) s a b ≡ whole words M m Ps s a b) same
        (neighbour_goes words M N m k Ps rM rN (may_be_null k N rN z) s a b v)

pub neighbours_dead : NeighboursDead
unfolding fits
neighbours_dead words n p l qs ts (node M m p₁ l₁ ps) (node N k p₂ l₂ rs) o z s a b u =
    laid words Concat n p l s a b qs (more (node M m p₁ l₁ ps) (more (node N k p₂ l₂ rs) ts))
    ∙ is_false (sequence (fits_each words qs ++ (whole words M m Ps ∷ (whole words N k (fits_each words rs) ∷ fits_each words ts))) s a b)
    (dead_behind (length words) (fits_each words qs) (whole words M m Ps) (whole words N k (fits_each words rs) ∷ fits_each words ts)
    (heads_dead (length words) (whole words M m Ps) (whole words N k (fits_each words rs)) (fits_each words ts) never) s a b u)
  where
    Ps : List Rule
    Ps = fits_each words ps

    same : fits_each words rs ≡ Ps
    same = sym (alike_fits_each words ps rs (and_parts (repeats M && repeats N) _ o).1)

    rM : repeats M ≡ true
    rM = (and_parts (repeats M) (repeats N) (and_parts (repeats M && repeats N) _ o).0).0

    rN : repeats N ≡ true
    rN = (and_parts (repeats M) (repeats N) (and_parts (repeats M && repeats N) _ o).0).1

    never : (s a c d : ℕ) → d ≤ length words → whole words M m Ps s a c ≡ true → whole words N k (fits_each words rs) c c d ≡ true → ⊥
    never s a c d v e f =
        neighbour_dead words M N m k Ps rM rN (never_null k N rN z) s a c d v e
        (sym (ap (λ (Rs : List Rule). whole words N k Rs c c d) same) ∙ f)

-- Alternatives

pub alternatives : Alternatives
unfolding fits
alternatives words n p l qs rs ts (node M m p₁ l₁ ps) (node N k p₂ l₂ os) o g s a b u =
    laid_around words Any n p l s a b qs rs (more (node N k p₂ l₂ os) ts) (node M m p₁ l₁ ps)
    ∙ one_joined (fits_each words qs) (fits_each words rs) (fits_each words ts) s a b (whole words M m Ps) (whole words N k (fits_each words os))
    (whole words (merged_kind M N) (merged_number M m N k) Ps) either
    ∙ sym (laid_around words Any n p l s a b qs rs ts (node (merged_kind M N) (merged_number M m N k) p₁ l₁ ps))
  where
    Ps : List Rule
    Ps = fits_each words ps

    rM : repeats M ≡ true
    rM = (and_parts (repeats M) (repeats N) (and_parts (repeats M && repeats N) _ o).0).0

    rN : repeats N ≡ true
    rN = (and_parts (repeats M) (repeats N) (and_parts (repeats M && repeats N) _ o).0).1

    either : (whole words M m Ps s a b || whole words N k (fits_each words os) s a b) ≡ whole words (merged_kind M N) (merged_number M m N k) Ps s a b
    either =
        let j = merge_counts m k M N rM rN g in
        ap (λ (Rs : List Rule). whole words M m Ps s a b || whole words N k Rs s a b) (sym (alike_fits_each words ps os (and_parts (repeats M && repeats N) _ o).1))
        ∙ repeats_joined words M N (merged_kind M N) m k (merged_number M m N k) Ps rM rN j.0 j.1 j.2 s a b

-- Nested repeats

pub nested_dies : NestedDead
unfolding fits
nested_dies words k n p l (node M m p₁ l₁ ps) g t r s a b u =
    let f = not_fewer n k g in
    is_false (whole words k n (whole words M m (fits_each words ps) ∷ []) s a b)
    (nested_dead words k M n m (fits_each words ps) f.0 r (λ j c. let v = f.1 j c in omega arith) s a b u)

-- the only part of a repeat is a shape
repeat_part : (K : Kind) → repeats K ≡ true → part_role K ≡ Shape
repeat_part Symbol r = refl
repeat_part Any r = refl
repeat_part Concat r = refl
repeat_part Exact r = refl
repeat_part Atleast r = refl
repeat_part Atmost r = refl
repeat_part In r = absurd (false≢true r)
repeat_part Precisely r = refl
repeat_part Noless r = refl
repeat_part Nomore r = refl
repeat_part And r = absurd (false≢true r)
repeat_part Or r = absurd (false≢true r)
repeat_part Inorder r = refl

-- where each of the parts is seen alike from its own start, so is the only one
only_own : (words : List ℕ) (ps : Queries) (st : Stage) → keeps_each st Shape ps ≡ true → windowed_each ps ≡ false → Own (only (fits_each words ps))
unfolding fits
only_own words none st kept w s a b e = e
only_own words (more q qs) st kept w s a b e = (own_each (more q qs) words st kept w).0 s a b e

pub nested_go : NestedGoes
unfolding fits keeps
nested_go words k p l (node M m p₁ l₁ ps) st g kept alone s a b u =
    let f = not_fewer 1 k g in
    let h = and_parts _ _ alone in
    let i = not_fewer m M h.0 in
    let z = and_parts _ _ h.1 in
    let pos = ltb-true 0 m z.0 in
    let shapes : keeps_each st Shape ps ≡ true = subst (λ (r : Role). keeps_each st r ps ≡ true) (repeat_part M i.0) (and_parts _ (keeps_each st (part_role M) ps) kept).1 in
    nested_goes words k M 1 m (fits_each words ps) f.0 i.0 f.2 (λ j c. let v = f.1 j c in omega arith)
    (λ j c. let v = i.1 j c in omega arith) (only_own words ps st shapes (not-true _ z.1)) s a b u
