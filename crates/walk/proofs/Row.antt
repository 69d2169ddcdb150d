-- The records of parts that stand one after another.
use Rattle.std.proofs.Common.{◌≡◌, ℕ, zero, suc, ◌<◌, List, [], ◌∷◌, length, map, refl, sym, ap, ◌∙◌, subst, arith}
use Rattle.std.proofs.Math.Logic.{∥∥₁_elim, ∥∥₁_prop}
use Rattle.std.proofs.Math.Nat.{ℕ_set}
use Rattle.std.proofs.Math.Bridge.{le_prop}
use Rattle.query.specs.declared.node.Role.{Role}
use Rattle.query.specs.Stands.{next_at}
use Rattle.shape.specs.Fits.{Rule}
use Rattle.walk.specs.declared.walk.Walk.{Walk}
use Rattle.walk.specs.Walk.{entry}
use Rattle.walk.specs.declared.kept.Entry.{Entry}
use Rattle.walk.specs.Places.{places}
use Rattle.walk.specs.Seeing.{line, fitting, fittings, Part, Parts}
use Rattle.walk.proofs.Walking.{opened, rules_more, rules_none}
use Rattle.walk.proofs.Knowing.{next_is, part_here, one_part, any_deeper}

-- where a part stands in some role
module _ (w : Walk) (i : ℕ) (h : ∥ ((r : Role) × Part w 16 r i) ∥₁) where
  pub some_inside : i < length w.records.now
  some_inside = ∥∥₁_elim h le_prop (λ s. (opened 16 w.records.now s.0 i (omega arith) s.1.stands).inside)

  pub some_next : (e : Entry) → (entry w.kept.now i e).next ≡ next_at 16 w.records.now i
  some_next e = ∥∥₁_elim h (ℕ_set _ _) (λ s. next_is w s.0 i s.1.reached s.1.stands e)

-- where so many parts stand one after another in some role
module _ (w : Walk) (m k i : ℕ) (e : m ≡ suc k) (h : ∥ ((d : ℕ) × (r : Role) × Parts w d r m i) ∥₁) where
  pub some_part : ∥ ((r : Role) × Part w 16 r i) ∥₁
  some_part = ∥∥₁_elim h ∥∥₁_prop (λ s. ∣ (s.1, any_deeper w s.0 s.1 i (part_here w s.0 s.1 m k i e s.2)) ∣₁)

  pub some_others : (q : ℕ) → q ≡ next_at 16 w.records.now i → ∥ ((d : ℕ) × (r : Role) × Parts w d r k q) ∥₁
  some_others q n = ∥∥₁_elim h ∥∥₁_prop (λ s. ∣ (s.0, s.1, (one_part w s.0 s.1 m k i q e n s.2).left) ∣₁)

-- what the parts fit, record by record
fittings_are : (w : Walk) (k i : ℕ) → fittings w k i ≡ map (fitting w) (places w k i)
fittings_are w zero i = rules_none (line w) w.records.now 0 i refl
fittings_are w (suc k) i =
    rules_more (line w) w.records.now (suc k) k i refl ∙ ap (λ (Rs : List Rule). fitting w i ∷ Rs) (fittings_are w k (next_at 16 w.records.now i))

module _ (w : Walk) (d : ℕ) (r : Role) where
  -- at each of these records a part stands
  abbrev pub AllStand : List ℕ → Type 0
  AllStand [] = Unit {0}
  AllStand (p ∷ ps) = Part w d r p × AllStand ps

  all_stand : (k i : ℕ) → Parts w d r k i → AllStand (places w k i)
  all_stand zero i h = tt
  all_stand (suc k) i h =
      (part_here w d r (suc k) k i refl h, all_stand k (next_at 16 w.records.now i) (one_part w d r (suc k) k i _ refl refl h).left)

  -- all parts are ahead
  pub all_ahead : (k i : ℕ) (ps : List ℕ) (Q : List Rule → Type 0) → ps ≡ places w k i → Parts w d r k i → Q (fittings w k i) →
      AllStand ps × Q (map (fitting w) ps)
  all_ahead k i ps Q e h q = (
    subst AllStand (sym e) (all_stand k i h),
    subst Q (fittings_are w k i ∙ ap (λ (xs : List ℕ). map (fitting w) xs) (sym e)) q,
  )

  -- of those that are ahead one is taken
  pub one_taken : (p : ℕ) (ps qs : List ℕ) (Q : List Rule → Type 0) → ps ≡ p ∷ qs → AllStand ps × Q (map (fitting w) ps) →
      Part w d r p × AllStand qs × Q (fitting w p ∷ map (fitting w) qs)
  one_taken p ps qs Q e h =
      let s : Part w d r p × AllStand qs = subst AllStand e h.0 in
      (s.0, s.1, subst (λ (xs : List ℕ). Q (map (fitting w) xs)) e h.1)
