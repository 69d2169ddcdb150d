-- Wholes that need one of their parts, or all of them, with parts put together.
use Rattle.std.proofs.Common.{◌≡◌, ℕ, Bool, true, false, ◌&&◌, ◌||◌, List, [], ◌∷◌, ◌++◌, sym, refl, ap, ◌∙◌, ap₂}
use Rattle.shape.specs.Fits.{Rule, one_of, all_of}

or_group : (x y z : Bool) → (x || (y || z)) ≡ ((x || y) || z)
or_group true y z = refl
or_group false y z = refl

and_group : (x y z : Bool) → (x && (y && z)) ≡ ((x && y) && z)
and_group true y z = refl
and_group false y z = refl

-- two of a row are put together in the first one's place
or_gather : (y q x r : Bool) → (y || (q || (x || r))) ≡ ((y || x) || (q || r))
or_gather true q x r = refl
or_gather false true true r = refl
or_gather false true false r = refl
or_gather false false x r = refl

and_gather : (y q x r : Bool) → (y && (q && (x && r))) ≡ ((y && x) && (q && r))
and_gather true true x r = refl
and_gather true false true r = refl
and_gather true false false r = refl
and_gather false q x r = refl

one_append : (Ps Qs : List Rule) (s a b : ℕ) → one_of (Ps ++ Qs) s a b ≡ (one_of Ps s a b || one_of Qs s a b)
one_append [] Qs s a b = refl
one_append (P ∷ Ps) Qs s a b =
    ap (λ (t : Bool). P s a b || t) (one_append Ps Qs s a b) ∙ or_group (P s a b) (one_of Ps s a b) (one_of Qs s a b)

all_append : (Ps Qs : List Rule) (s a b : ℕ) → all_of (Ps ++ Qs) s a b ≡ (all_of Ps s a b && all_of Qs s a b)
all_append [] Qs s a b = refl
all_append (P ∷ Ps) Qs s a b =
    ap (λ (t : Bool). P s a b && t) (all_append Ps Qs s a b) ∙ and_group (P s a b) (all_of Ps s a b) (all_of Qs s a b)

module _ (Ps Qs Rs : List Rule) (s a b : ℕ) where
  -- one among parts gives way to its parts
  pub one_flat : one_of (Ps ++ (one_of Qs ∷ Rs)) s a b ≡ one_of (Ps ++ (Qs ++ Rs)) s a b
  one_flat =
      one_append Ps (one_of Qs ∷ Rs) s a b ∙ ap (λ (t : Bool). one_of Ps s a b || t) (sym (one_append Qs Rs s a b))
      ∙ sym (one_append Ps (Qs ++ Rs) s a b)

  pub all_flat : all_of (Ps ++ (all_of Qs ∷ Rs)) s a b ≡ all_of (Ps ++ (Qs ++ Rs)) s a b
  all_flat =
      all_append Ps (all_of Qs ∷ Rs) s a b ∙ ap (λ (t : Bool). all_of Ps s a b && t) (sym (all_append Qs Rs s a b))
      ∙ sym (all_append Ps (Qs ++ Rs) s a b)

  module _ (Y X Z : Rule) where
    -- two parts become one that fits where either does
    pub one_joined : (Y s a b || X s a b) ≡ Z s a b → one_of (Ps ++ (Y ∷ (Qs ++ (X ∷ Rs)))) s a b ≡ one_of (Ps ++ (Z ∷ (Qs ++ Rs))) s a b
    one_joined e =
        one_append Ps (Y ∷ (Qs ++ (X ∷ Rs))) s a b
        ∙ ap (λ (t : Bool). one_of Ps s a b || t)
        (ap (λ (t : Bool). Y s a b || t) (one_append Qs (X ∷ Rs) s a b)
        ∙ or_gather (Y s a b) (one_of Qs s a b) (X s a b) (one_of Rs s a b)
        ∙ ap₂ (λ (t u : Bool). t || u) e (sym (one_append Qs Rs s a b)))
        ∙ sym (one_append Ps (Z ∷ (Qs ++ Rs)) s a b)

    pub all_joined : (Y s a b && X s a b) ≡ Z s a b → all_of (Ps ++ (Y ∷ (Qs ++ (X ∷ Rs)))) s a b ≡ all_of (Ps ++ (Z ∷ (Qs ++ Rs))) s a b
    all_joined e =
        all_append Ps (Y ∷ (Qs ++ (X ∷ Rs))) s a b
        ∙ ap (λ (t : Bool). all_of Ps s a b && t)
        (ap (λ (t : Bool). Y s a b && t) (all_append Qs (X ∷ Rs) s a b)
        ∙ and_gather (Y s a b) (all_of Qs s a b) (X s a b) (all_of Rs s a b)
        ∙ ap₂ (λ (t u : Bool). t && u) e (sym (all_append Qs Rs s a b)))
        ∙ sym (all_append Ps (Z ∷ (Qs ++ Rs)) s a b)
