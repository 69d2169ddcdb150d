-- How many numbers of a range pass a test.
use Rattle.std.proofs.Common.{◌≡◌, ℕ, zero, suc, ◌+◌, ◌<◌, ◌≤◌, Bool, true, false, cond, refl, ap, ◌∙◌, ap₂, arith}
use Rattle.ends.specs.Member.{tally}

module _ (test : ℕ → Bool) where
  -- two ranges, one after the other
  pub tally_append : (d e x : ℕ) → tally (d + e) x test ≡ tally d x test + tally e (x + d) test
  unfolding tally
  tally_append zero e x = let z : 0 + e ≡ e = omega arith in let y : x ≡ x + 0 = omega arith in ap₂ (λ (m k : ℕ). tally m k test) z y ∙ omega arith
  tally_append (suc d) e x =
      let z : suc d + e ≡ suc (d + e) = omega arith in
      let y : suc x + d ≡ x + suc d = omega arith in
      let r = tally_append d e (suc x) in
      let s : tally e (suc x + d) test ≡ tally e (x + suc d) test = ap (λ (k : ℕ). tally e k test) y in
      ap (λ (m : ℕ). tally m x test) z ∙ omega arith

  -- there are no more than there are numbers
  pub tally_le : (d x : ℕ) → tally d x test ≤ d
  unfolding tally
  tally_le zero x = omega arith
  tally_le (suc d) x =
      let r = tally_le d (suc x) in
      elim (test x) as (λ t. cond t 1 0 + tally d (suc x) test ≤ suc d) [ true ↦ omega arith | false ↦ omega arith ]

  -- none passes
  pub tally_none : (d x : ℕ) → ((k : ℕ) → x ≤ k → k < x + d → test k ≡ false) → tally d x test ≡ 0
  unfolding tally
  tally_none zero x h = refl
  tally_none (suc d) x h =
      ap₂ (λ (t : Bool) (m : ℕ). cond t 1 0 + m) (h x (omega arith) (omega arith))
      (tally_none d (suc x) (λ k l u. h k (omega arith) (omega arith)))

-- two tests that agree on the range
pub tally_same : (test other : ℕ → Bool) (d x : ℕ) → ((k : ℕ) → x ≤ k → k < x + d → test k ≡ other k) → tally d x test ≡ tally d x other
unfolding tally
tally_same test other zero x h = refl
tally_same test other (suc d) x h =
    ap₂ (λ (t : Bool) (m : ℕ). cond t 1 0 + m) (h x (omega arith) (omega arith))
    (tally_same test other d (suc x) (λ k l u. h k (omega arith) (omega arith)))
