-- The positions of a set, the lowest first.
use Rattle.std.proofs.Common.{◌≡◌, ℕ, zero, suc, ◌+◌, ◌-◌, ◌<◌, ◌≤◌, Bool, true, false, [], ◌∷◌, Some, None, sym, refl, ap, ◌∙◌, ap₂, arith}
use Rattle.std.proofs.lemmas.Bool.{cond-true, cond-false}
use Rattle.std.specs.List.{filter, range_with_len}
use Rattle.ends.specs.Member.{Finds}

module _ (test : ℕ → Bool) where
  -- none of a range passes
  none_listed : (d b : ℕ) → ((k : ℕ) → b ≤ k → k < b + d → test k ≡ false) → filter test (range_with_len b d) ≡ []
  none_listed zero b h = refl
  none_listed (suc d) b h =
      cond-false (test b) _ _ (h b (omega arith) (omega arith)) ∙ none_listed d (b + 1) (λ k l u. h k (omega arith) (omega arith))

  -- the first that passes
  first_listed : (e d b r : ℕ) → b + e ≡ r → ((k : ℕ) → b ≤ k → k < r → test k ≡ false) → test r ≡ true →
      filter test (range_with_len b (e + suc d)) ≡ r ∷ filter test (range_with_len (r + 1) d)
  first_listed zero d b r z h t = let q : b ≡ r = omega arith in let n : 0 + suc d ≡ suc d = omega arith in
      ap₂ (λ (x m : ℕ). filter test (range_with_len x m)) q n ∙ cond-true (test r) _ _ t
  first_listed (suc e) d b r z h t = let n : suc e + suc d ≡ suc (e + suc d) = omega arith in
      ap (λ (m : ℕ). filter test (range_with_len b m)) n ∙ cond-false (test b) _ _ (h b (omega arith) (omega arith))
      ∙ first_listed e d (b + 1) r (omega arith) (λ k l u. h k (omega arith) u) t

  -- none is left
  pub left_none : (b : ℕ) → Finds test b None → filter test (range_with_len b (256 - b)) ≡ []
  left_none b h = none_listed (256 - b) b (λ k l u. h k l (omega arith))

  -- the next, and those that are left then
  pub left_first : (b r : ℕ) → Finds test b (Some r) →
      filter test (range_with_len b (256 - b)) ≡ r ∷ filter test (range_with_len (r + 1) (256 - (r + 1)))
  left_first b r (l, n) =
      let above = n.above in
      let d : (r - b) + suc (256 - (r + 1)) ≡ 256 - b = omega arith in
      ap (λ (m : ℕ). filter test (range_with_len b m)) (sym d)
      ∙ first_listed (r - b) (256 - (r + 1)) b r (omega arith) n.skipped (n.found l)
