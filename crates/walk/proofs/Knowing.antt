-- What a walk through a query knows of what is kept.
use Rattle.std.proofs.Common.{◌≡◌, ℕ, suc, ◌+◌, ◌<◌, ◌≤◌, true, ◌∷◌, length, sym, ap, ◌∙◌, subst, inl, inr, arith}
use Rattle.std.proofs.lemmas.Bool.{cases_eq}
use Rattle.std.proofs.Math.Logic.{∥∥₁_elim, ∥∥₁_prop}
use Rattle.std.proofs.Math.Bool.{Bool-set}
use Rattle.std.proofs.Math.Nat.{ℕ_set}
use Rattle.std.proofs.Math.Bridge.{le_prop}
use Rattle.query.specs.declared.node.Role.{Role}
use Rattle.query.specs.declared.node.Role.TheVariants.{Shape}
use Rattle.query.specs.Stands.{at, next_at}
use Rattle.shape.specs.Fits.{Rule}
use Rattle.tables.specs.declared.table.Table.{Table}
use Rattle.wholes.specs.declared.view.View.{View}
use Rattle.wholes.specs.declared.view.View.TheVariants.{Own}
use Rattle.wholes.specs.Shows.{Shows, Later, Stops}
use Rattle.walk.specs.declared.kept.Entry.{Entry}
use Rattle.walk.specs.declared.walk.Walk.{Walk}
use Rattle.walk.specs.Walk.{Stands, many_of, repeats, entry, Ready, ReadyFrom}
use Rattle.walk.specs.Seeing.{line, fitting, fittings, Part, Parts}
use Rattle.walk.proofs.Walking.{first, lifted, rules_more}

-- one proof that a table shows a rule is as good as another
shows_had : (t : Table) (P : Rule) (v : View) (to n : ℕ) → ∥ Shows t P v to n ∥₁ → Shows t P v to n
shows_had t P v to n h = record {
  sound = λ a b e. record {
    low = ∥∥₁_elim h le_prop (λ s. (s.sound a b e).low);
    up = ∥∥₁_elim h le_prop (λ s. (s.sound a b e).up);
    high = ∥∥₁_elim h le_prop (λ s. (s.sound a b e).high);
    fit = ∥∥₁_elim h (Bool-set _ _) (λ s. (s.sound a b e).fit);
  };
  full = λ a b f. ∥∥₁_elim h (Bool-set _ _) (λ s. s.full a b f);
}

module _ (w : Walk) where
  -- there are few records
  pub few : length w.records.now ≤ 64
  few = ∥∥₁_elim w.right le_prop (λ r. r.later.few)

  ready_at : (i : ℕ) → w.from ≤ i → ReadyFrom w.kept.now w.records.now (line w) w.from → Ready w.kept.now w.records.now (line w) i
  ready_at i l r = elim (cases_eq i w.from) [
    | inl e ↦ subst (λ (x : ℕ). Ready w.kept.now w.records.now (line w) x) (sym e) r.ready
    | inr ne ↦ (r.later.right i (omega arith)).ready
  ]

  -- what a repeat fits, found by what is kept of it
  pub repeat_shown : (i : ℕ) (t : Table) (P : Rule) (v : View) (to : ℕ) (d e : Entry) → w.from ≤ i → repeats (at w.records.now i).kind ≡ true →
      Stands 16 w.records.now Shape (i + 1) →
      (Later (entry w.kept.now i d).later (fitting w (i + 1)) (many_of (at w.records.now i).kind (at w.records.now i).number) (length (line w)) →
      Stops (entry w.kept.now i e).stops (fitting w (i + 1)) (length (line w)) → Shows t P v to (length (line w))) →
      Shows t P v to (length (line w))
  repeat_shown i t P v to d e l k s f =
      shows_had t P v to (length (line w))
      (∥∥₁_elim w.right ∥∥₁_prop (λ r. ∣ f ((ready_at i l r).later k s d) ((ready_at i l r).stops k s e) ∣₁))

  pub next_is : (r : Role) (p : ℕ) → w.from < p → Stands 16 w.records.now r p → (e : Entry) → (entry w.kept.now p e).next ≡ next_at 16 w.records.now p
  next_is r p l s e = ∥∥₁_elim w.right (ℕ_set _ _) (λ h. (h.later.right p (omega arith)).next r s e)

  pub own_is : (p : ℕ) → w.from < p → Stands 16 w.records.now Shape p → (e : Entry) →
      Shows (entry w.kept.now p e).own (fitting w p) Own (length (line w)) (length (line w))
  own_is p l s e =
      shows_had _ (fitting w p) Own (length (line w)) (length (line w))
      (∥∥₁_elim w.right ∥∥₁_prop (λ h. ∣ (h.later.right p (omega arith)).own s e ∣₁))

-- with all levels left it stands there too
pub any_deeper : (w : Walk) (d : ℕ) (r : Role) (i : ℕ) → Part w d r i → Part w 16 r i
any_deeper w d r i h = record { deep = omega arith; reached = h.reached; stands = lifted d w.records.now r i h.deep h.stands }

-- a part that is left stands there
pub part_here : (w : Walk) (d : ℕ) (r : Role) (m less p : ℕ) → m ≡ suc less → Parts w d r m p → Part w d r p
part_here w d r m less p e h = record { deep = h.deep; reached = h.reached; stands = (first d w.records.now r m less p h.deep e h.stand).here }

-- of the parts that are left one is taken
pub record One (w : Walk) (d : ℕ) (r : Role) (m less p q : ℕ) : Type 0 where
  pub left : Parts w d r less q
  pub rules_are : fittings w m p ≡ fitting w p ∷ fittings w less q

pub one_part : (w : Walk) (d : ℕ) (r : Role) (m less p q : ℕ) → m ≡ suc less → q ≡ next_at 16 w.records.now p → Parts w d r m p → One w d r m less p q
one_part w d r m less p q e n h =
    let f = first d w.records.now r m less p h.deep e h.stand in
    let u = h.reached in
    let v = f.further in
    record {
      left = subst (λ (x : ℕ). Parts w d r less x) (sym n) (record { deep = h.deep; reached = omega arith; stand = f.rest });
      rules_are = rules_more (line w) w.records.now m less p e ∙ ap (λ (x : ℕ). fitting w p ∷ fittings w less x) (sym n);
    }
