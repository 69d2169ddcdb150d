-- What a look through a range of positions finds.
use Rattle.std.proofs.Common.{◌≡◌, ℕ, zero, suc, ◌+◌, ◌-◌, ◌<◌, ◌≤◌, Bool, true, false, Decides, sym, refl, ap, ◌∙◌, inl, inr, arith}
use Rattle.std.proofs.lemmas.Bool.{cases_eq, false≢true}
use Rattle.shape.specs.Ranges.{some_from, some}

module _ (test : ℕ → Bool) where
  pub from_found : (d x : ℕ) → some_from d x test ≡ true → (c : ℕ) × (x ≤ c) × (c < x + d) × (test c ≡ true)
  unfolding some_from
  from_found zero x e = absurd (false≢true e)
  from_found (suc d) x e = go (test x) refl e (from_found d (suc x))
    where
      go : (t : Bool) → test x ≡ t → elim t as (λ _. Bool) [ true ↦ true | false ↦ some_from d (suc x) test ] ≡ true →
          (some_from d (suc x) test ≡ true → (c : ℕ) × (suc x ≤ c) × (c < suc x + d) × (test c ≡ true)) →
          (c : ℕ) × (x ≤ c) × (c < x + suc d) × (test c ≡ true)
      go true is e rest = (x, omega arith, omega arith, is)
      go false is e rest = let (c, l, u, is) = rest e in (c, omega arith, omega arith, is)

  pub from_finds : (d x c : ℕ) → x ≤ c → c < x + d → test c ≡ true → some_from d x test ≡ true
  unfolding some_from
  from_finds zero x c l u e = absurd (omega arith)
  from_finds (suc d) x c l u e = go (test x) refl (λ m. from_finds d (suc x) c m (omega arith) e)
    where
      go : (t : Bool) → test x ≡ t → (suc x ≤ c → some_from d (suc x) test ≡ true) →
          elim t as (λ _. Bool) [ true ↦ true | false ↦ some_from d (suc x) test ] ≡ true
      go true is rest = refl
      go false is rest = elim (cases_eq x c) [
        | inl h ↦ absurd (false≢true (sym is ∙ ap test h ∙ e))
        | inr h ↦ rest (omega arith)
      ]

  -- there is such a number just where the look through the range says so
  pub some_decides : (a b : ℕ) → Decides (some a b test) ((c : ℕ) × (a ≤ c) × (c < b) × (test c ≡ true))
  some_decides a b = (
    λ e. let (c, l, u, is) = from_found (b - a) a e in (c, l, omega arith, is),
    λ h. from_finds (b - a) a h.0 h.1 (let l = h.1 in let u = h.2 in omega arith) h.3,
  )
