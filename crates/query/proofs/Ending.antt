-- The steps of the search for the end of a query in records.
use Rattle.std.proofs.Common.{◌≡◌, ℕ, zero, suc, ◌+◌, ◌-◌, ◌<◌, ◌≤◌, true, false, ◌&&◌, ltb, ◌⊎◌, List, length, Some, None, Option, sym, refl, ap, ◌∙◌, ap₂, arith}
use Rattle.std.proofs.lemmas.Grind.{common_steps}
use Rattle.std.proofs.lemmas.Bool.{and_from, and_right, lt-ltb, cond-true, cond-false}
use Rattle.query.specs.declared.node.Node.{Node}
use Rattle.query.specs.declared.node.Role.{Role}
use Rattle.query.specs.declared.node.Stage.{Stage}
use Rattle.query.specs.Rules.{record_right, part_role}
use Rattle.query.specs.Stands.{at, and_then, ends, end_at}

module _ (s : Stage) (ns : List Node) (r : Role) (i : ℕ) where
  -- no level is left, or no record
  pub end_out : (d : ℕ) → (d ≡ 0) ⊎ ((d ≡ 0 → ⊥) × (length ns ≤ i)) → None ≡ end_at s d ns r i
  unfolding end_at
  end_out d h = grind (arith, common_steps)

  -- the record is wrong here
  pub end_wrong : (d : ℕ) → false ≡ record_right s r (at ns i) → None ≡ end_at s d ns r i
  unfolding end_at
  end_wrong zero h = refl
  end_wrong (suc d) h =
      sym (cond-false (ltb i (length ns) && record_right s r (at ns i)) _ None (and_right (ltb i (length ns)) _ (sym h)))

  -- the record is right, and the end is that of its parts
  pub end_on : (d : ℕ) (inner : Role) → (d ≡ 0 → ⊥) → i < length ns → true ≡ record_right s r (at ns i) →
      inner ≡ part_role (at ns i).kind → ends (end_at s (d - 1) ns inner) (at ns i).parts (i + 1) ≡ end_at s d ns r i
  unfolding end_at
  end_on zero inner deep l h p = absurd (deep refl)
  end_on (suc d) inner deep l h p =
      let e : suc d - 1 ≡ d = omega arith in
      ap₂ (λ (x : ℕ) (y : Role). ends (end_at s x ns y) (at ns i).parts (i + 1)) e p ∙
      sym (cond-true (ltb i (length ns) && record_right s r (at ns i)) _ None (and_from _ _ (lt-ltb i (length ns) l) (sym h)))

module _ (step : ℕ → Option ℕ) where
  -- one part more
  pub ends_more : (k m i j : ℕ) → k ≡ suc m → Some j ≡ step i → ends step m j ≡ ends step k i
  ends_more zero m i j e h = absurd (omega arith)
  ends_more (suc k) m i j e h =
      let km : m ≡ k = omega arith in
      ap (λ (x : ℕ). ends step x j) km ∙ ap (λ (o : Option ℕ). and_then o (λ x. ends step k x)) h

  pub ends_stop : (k m i : ℕ) → k ≡ suc m → None ≡ step i → None ≡ ends step k i
  ends_stop zero m i e h = absurd (omega arith)
  ends_stop (suc k) m i e h = ap (λ (o : Option ℕ). and_then o (λ x. ends step k x)) h

  pub ends_all : (k i : ℕ) → k ≡ 0 → Some i ≡ ends step k i
  ends_all zero i e = refl
  ends_all (suc k) i e = absurd (omega arith)
