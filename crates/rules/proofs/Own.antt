-- Without a window inside, what fits seen from some position also fits seen from its own start.
use Rattle.std.proofs.Common.{◌≡◌, ℕ, true, false, List, [], ◌∷◌, length, sym, refl, ap, ◌∙◌, subst, inl, inr, arith}
use Rattle.std.proofs.lemmas.Bool.{and_parts, or_parts, or_cases, or_left, or_right, true≢false, false≢true}
use Rattle.query.specs.declared.node.Kind.{Kind}
use Rattle.query.specs.declared.node.Kind.TheVariants.{Symbol, Any, Concat, Exact, Atleast, Atmost, In, Precisely, Noless, Nomore, And, Or, Inorder}
use Rattle.query.specs.declared.node.Role.{Role}
use Rattle.query.specs.declared.node.Role.TheVariants.{Shape}
use Rattle.query.specs.declared.node.Stage.{Stage}
use Rattle.query.specs.Tree.{Query, node, Queries, none, more, count}
use Rattle.query.specs.Rules.{record_right, part_role, keeps, keeps_each}
use Rattle.shape.specs.Fits.{Rule, only, one_of, sequence, whole, fits, fits_each}
use Rattle.shape.specs.Laws.{Pieces}
use Rattle.rules.specs.Applies.{repeats, windowed, windowed_each}
use Rattle.rules.proofs.Repeats.{Chain, repeat_decides}
use Rattle.rules.proofs.Sequence.{meet_decides}

-- what the rule fits, it fits seen from its own start
abbrev pub Own : Rule → Type 0
Own P = (s a b : ℕ) → P s a b ≡ true → P a a b ≡ true

abbrev pub OwnEach : List Rule → Type 0
OwnEach [] = Unit {0}
OwnEach (P ∷ Ps) = Own P × OwnEach Ps

one_own : (Ps : List Rule) → OwnEach Ps → Own (one_of Ps)
one_own [] h s a b e = e
one_own (P ∷ Ps) h s a b e = elim (or_cases (P s a b) (one_of Ps s a b) e) [
  | inl f ↦ or_left (P a a b) _ (h.0 s a b f)
  | inr f ↦ or_right (P a a b) _ (one_own Ps h.1 s a b f)
]

sequence_own : (Ps : List Rule) → OwnEach Ps → Own (sequence Ps)
unfolding sequence
sequence_own [] h s a b e = e
sequence_own (P ∷ []) h s a b e = h.0 s a b e
sequence_own (P ∷ (Q ∷ Ps)) h s a b e =
    let m = (meet_decides P (sequence (Q ∷ Ps)) s a b).0 e in
    (meet_decides P (sequence (Q ∷ Ps)) a a b).1 (m.0, m.1, m.2, h.0 s a m.0 m.3, m.4)

only_own : (Ps : List Rule) → OwnEach Ps → Own (only Ps)
only_own [] h s a b e = e
only_own (P ∷ Ps) h s a b e = h.0 s a b e

chain_own : (n : ℕ) (P : Rule) → Own P → (j s a b : ℕ) → Chain n P j s a b → Chain n P j a a b
chain_own n P h j s a b c = (c.0, c.1, pieces c.0 c.2, (λ z l u e. absurd (omega arith)), c.4)
  where
    pieces : (cs : List ℕ) → Pieces P s a cs b → Pieces P a a cs b
    pieces [] p = p
    pieces (c ∷ cs) p = (p.0, h s a c p.1, p.2)

repeat_own : (words : List ℕ) (M : Kind) (k : ℕ) (Ps : List Rule) → repeats M ≡ true → OwnEach Ps → Own (whole words M k Ps)
repeat_own words M k Ps r h s a b e =
    let f = (repeat_decides words M k Ps s a b r).0 e in
    (repeat_decides words M k Ps a a b r).1 (f.0, f.1, chain_own (length words) (only Ps) (only_own Ps h) f.0 s a b f.2)

whole_own : (words : List ℕ) (st : Stage) (k : Kind) (n p l m : ℕ) (Ps : List Rule) →
    record_right st Shape (record { kind = k; number = n; parts = m; place = p; length = l }) ≡ true → (k ≡ In → ⊥) →
    OwnEach Ps → Own (whole words k n Ps)
whole_own words st Symbol n p l m Ps r i h s a b e = e
whole_own words st Any n p l m Ps r i h s a b e = one_own Ps h s a b e
whole_own words st Concat n p l m Ps r i h s a b e = sequence_own Ps h s a b e
whole_own words st Exact n p l m Ps r i h s a b e = repeat_own words Exact n Ps refl h s a b e
whole_own words st Atleast n p l m Ps r i h s a b e = repeat_own words Atleast n Ps refl h s a b e
whole_own words st Atmost n p l m Ps r i h s a b e = repeat_own words Atmost n Ps refl h s a b e
whole_own words st In n p l m Ps r i h s a b e = absurd (i refl)
whole_own words st Precisely n p l m Ps r i h s a b e = absurd (false≢true r)
whole_own words st Noless n p l m Ps r i h s a b e = absurd (false≢true r)
whole_own words st Nomore n p l m Ps r i h s a b e = absurd (false≢true r)
whole_own words st And n p l m Ps r i h s a b e = absurd (false≢true r)
whole_own words st Or n p l m Ps r i h s a b e = absurd (false≢true r)
whole_own words st Inorder n p l m Ps r i h s a b e = absurd (false≢true r)

-- the parts of a shape that is no window are shapes
shape_parts : (st : Stage) (k : Kind) (n p l m : ℕ) →
    record_right st Shape (record { kind = k; number = n; parts = m; place = p; length = l }) ≡ true → (k ≡ In → ⊥) → part_role k ≡ Shape
shape_parts st Symbol n p l m r i = refl
shape_parts st Any n p l m r i = refl
shape_parts st Concat n p l m r i = refl
shape_parts st Exact n p l m r i = refl
shape_parts st Atleast n p l m r i = refl
shape_parts st Atmost n p l m r i = refl
shape_parts st In n p l m r i = absurd (i refl)
shape_parts st Precisely n p l m r i = absurd (false≢true r)
shape_parts st Noless n p l m r i = absurd (false≢true r)
shape_parts st Nomore n p l m r i = absurd (false≢true r)
shape_parts st And n p l m r i = absurd (false≢true r)
shape_parts st Or n p l m r i = absurd (false≢true r)
shape_parts st Inorder n p l m r i = absurd (false≢true r)

not_in : (k : Kind) (qs : Queries) → windowed (node k 0 0 0 qs) ≡ false → k ≡ In → ⊥
unfolding windowed
not_in k qs w e = true≢false (ap (λ (t : Kind). windowed (node t 0 0 0 qs)) (sym e) ∙ w)

mutual
  unfolding fits keeps windowed

  pub own : (q : Query) (words : List ℕ) (st : Stage) → keeps st Shape q ≡ true → windowed q ≡ false → Own (fits words q)
  own (node k n p l qs) words st kept w =
      let b = and_parts _ _ kept in
      let i : k ≡ In → ⊥ = not_in k qs w in
      let v = or_parts _ _ w in
      whole_own words st k n p l (count qs) (fits_each words qs) b.0 i
      (own_each qs words st
      (subst (λ (r : Role). keeps_each st r qs ≡ true) (shape_parts st k n p l (count qs) b.0 i) b.1) v.1)

  pub own_each : (qs : Queries) (words : List ℕ) (st : Stage) → keeps_each st Shape qs ≡ true → windowed_each qs ≡ false → OwnEach (fits_each words qs)
  own_each none words st kept w = tt
  own_each (more q qs) words st kept w =
      let b = and_parts _ _ kept in
      let v = or_parts _ _ w in
      (own q words st b.0 v.0, own_each qs words st b.1 v.1)
