-- The bounds in a row, read part by part.
use Rattle.std.proofs.Common.{◌≡◌, Bool, true, false, cond, subst, ℕ, List, get_or, take, drop, ℤ, Some, None, Option, refl, sym, ap, ap₂, ◌∙◌}
use Rattle.std.specs.Bool.{then_some}
use Rattle.std.proofs.lemmas.List.{get_or-drop}
use Rattle.alphabet.specs.declared.bounds.Asked.{Asked}
use Rattle.alphabet.specs.Sheets.{bounds_asking, asked_by, number_in, row_bounds}

-- a value where a test passes
pub some_if : {X : Type 0} (t u : Bool) (x : X) → t ≡ u → then_some t x ≡ cond u (Some x) None
some_if {X = X} true u x e = subst (λ v. ◌≡◌ {A = Option X} (Some x) (cond v (Some x) None)) e refl
some_if {X = X} false u x e = subst (λ v. ◌≡◌ {A = Option X} None (cond v (Some x) None)) e refl

no_first : (low high : ℤ) (last : Option Asked) → bounds_asking low high None last ≡ None
no_first low high (Some last) = refl
no_first low high None = refl

no_last : (low high : ℤ) (first : Option Asked) → bounds_asking low high first None ≡ None
no_last low high (Some first) = refl
no_last low high None = refl

-- the parts of a row are its first eight bytes, the next eight and what is left
module _ (row low rest high tail : List ℕ) (l : low ≡ take 8 row) (r : rest ≡ drop 8 row) (h : high ≡ take 8 rest) (t : tail ≡ drop 8 rest) where
  told : row_bounds row ≡ bounds_asking (number_in low) (number_in high) (asked_by (get_or tail 0 0)) (asked_by (get_or tail 1 0))
  told =
      let behind : tail ≡ drop 8 (drop 8 row) = t ∙ ap (drop 8) r in
      let first : get_or tail 0 0 ≡ get_or row 16 0 = ap (λ xs. get_or xs 0 0) behind ∙ get_or-drop 8 (drop 8 row) 0 0 ∙ get_or-drop 8 row 8 0 in
      let last : get_or tail 1 0 ≡ get_or row 17 0 = ap (λ xs. get_or xs 1 0) behind ∙ get_or-drop 8 (drop 8 row) 1 0 ∙ get_or-drop 8 row 9 0 in
      sym (ap₂ (λ x y. bounds_asking (number_in x) (number_in y) (asked_by (get_or tail 0 0)) (asked_by (get_or tail 1 0))) l (h ∙ ap (take 8) r)
      ∙ ap₂ (λ x y. bounds_asking (number_in (take 8 row)) (number_in (take 8 (drop 8 row))) (asked_by x) (asked_by y)) first last)

  pub first_wrong : asked_by (get_or tail 0 0) ≡ None → row_bounds row ≡ None
  first_wrong e = told ∙ ap (λ o. bounds_asking (number_in low) (number_in high) o (asked_by (get_or tail 1 0))) e ∙ no_first (number_in low) (number_in high) (asked_by (get_or tail 1 0))

  pub last_wrong : asked_by (get_or tail 1 0) ≡ None → row_bounds row ≡ None
  last_wrong e = told ∙ ap (bounds_asking (number_in low) (number_in high) (asked_by (get_or tail 0 0))) e ∙ no_last (number_in low) (number_in high) (asked_by (get_or tail 0 0))

  pub both_asked : (f g : Asked) → asked_by (get_or tail 0 0) ≡ Some f → asked_by (get_or tail 1 0) ≡ Some g → row_bounds row ≡ bounds_asking (number_in low) (number_in high) (Some f) (Some g)
  both_asked f g d e = told ∙ ap₂ (bounds_asking (number_in low) (number_in high)) d e
