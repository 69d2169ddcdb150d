-- Stretches one after another, and the tables of them.
use Rattle.std.proofs.Common.{◌≡◌, ℕ, zero, suc, ◌+◌, ◌*◌, ◌/◌, ◌%◌, ◌≤◌, Bool, true, false, cond, ◌||◌, eqb, ◌⊎◌, ◌↔◌, Decides, sym, refl, ap, ◌∙◌, subst, inl, inr, arith}
use Rattle.std.proofs.lemmas.Bool.{cases_eq, eq-eqb, ne_eqb, eqb-true, cond-true, cond-false, or_cases, or_left, or_right, false≢true}
use Rattle.tables.specs.declared.table.Table.{Table}
use Rattle.tables.specs.Holds.{holds, Held, Joined, Links, Rising}

-- twice as many stretches are as many pairs of them
pub links_pair : (R S : ℕ → ℕ → Type 0) → ((a b : ℕ) → Joined R R a b → S a b) → (h k : ℕ) → k ≡ 2 * h → (a b : ℕ) → Links R k a b → Links S h a b
links_pair R S f zero zero e a b l = l
links_pair R S f zero (suc k) e a b l = absurd (omega arith)
links_pair R S f (suc h) zero e a b l = absurd (omega arith)
links_pair R S f (suc h) (suc zero) e a b l = absurd (omega arith)
links_pair R S f (suc h) (suc (suc k)) e a b l =
    (l.2.0, f a l.2.0 (l.0, l.1, l.2.1), links_pair R S f h k (omega arith) l.2.0 b l.2.2)

pub links_unpair : (R S : ℕ → ℕ → Type 0) → ((a b : ℕ) → S a b → Joined R R a b) → (h k : ℕ) → k ≡ 2 * h → (a b : ℕ) → Links S h a b → Links R k a b
links_unpair R S f zero zero e a b l = l
links_unpair R S f zero (suc k) e a b l = absurd (omega arith)
links_unpair R S f (suc h) zero e a b l = absurd (omega arith)
links_unpair R S f (suc h) (suc zero) e a b l = absurd (omega arith)
links_unpair R S f (suc h) (suc (suc k)) e a b l =
    let j = f a l.0 l.1 in
    (j.0, j.1, (l.0, j.2, links_unpair R S f h k (omega arith) l.0 b l.2))

-- so many stretches, and then the others
pub links_split : (R : ℕ → ℕ → Type 0) (i j k : ℕ) → k ≡ i + j → (a b : ℕ) → Links R k a b → (c : ℕ) × Links R i a c × Links R j c b
links_split R zero j k e a b l = let s : k ≡ j = omega arith in (a, refl, subst (λ (m : ℕ). Links R m a b) s l)
links_split R (suc i) j zero e a b l = absurd (omega arith)
links_split R (suc i) j (suc k) e a b l =
    let r = links_split R i j k (omega arith) l.0 b l.2 in
    (r.0, (l.0, l.1, r.1), r.2)

-- what is to come of so many stretches after those of `out`
abbrev pub StillToCome : ℕ → Table → ℕ → Table → Table → ℕ → Type 0
StillToCome n self times out base left =
    (a b : ℕ) → ((a ≤ n) × Links (Held self) times a b) ↔ Joined (Held out) (Links (Held base) left) a b

-- an even number of stretches is left
pub power_even : (n : ℕ) (self out base new : Table) (times left : ℕ) → left % 2 ≡ 0 →
    ((a b : ℕ) → Decides (holds new a b) (Joined (Held base) (Held base) a b)) →
    StillToCome n self times out base left → StillToCome n self times out new (left / 2)
power_even n self out base new times left e d inv a b = (
  λ u. (let j = (inv a b).0 u in (j.0, j.1, links_pair (Held base) (Held new) (λ x y. (d x y).1) (left / 2) left (omega arith) j.0 b j.2)),
  λ j. (inv a b).1 (j.0, j.1, links_unpair (Held base) (Held new) (λ x y. (d x y).0) (left / 2) left (omega arith) j.0 b j.2),
)

-- an odd number is left: one goes over
pub power_odd : (n : ℕ) (self out next base : Table) (times left less : ℕ) → left ≡ suc less →
    ((a b : ℕ) → Decides (holds next a b) (Joined (Held out) (Held base) a b)) →
    StillToCome n self times out base left → StillToCome n self times next base less
power_odd n self out next base times zero less e d inv a b = absurd (omega arith)
power_odd n self out next base times (suc m) less e d inv a b =
    let s : m ≡ less = omega arith in (
      λ u. (let j = (inv a b).0 u in
          (j.2.0, (d a j.2.0).1 (j.0, j.1, j.2.1), subst (λ (k : ℕ). Links (Held base) k j.2.0 b) s j.2.2)),
      λ j. (let p = (d a j.0).0 j.1 in
          (inv a b).1 (p.0, p.1, (j.0, p.2, subst (λ (k : ℕ). Links (Held base) k j.0 b) (sym s) j.2))),
    )

pub power_done : (n : ℕ) (self out base : Table) (times left : ℕ) → left ≡ 0 → StillToCome n self times out base left →
    (a b : ℕ) → Decides (holds out a b) ((a ≤ n) × Links (Held self) times a b)
power_done n self out base times zero e inv a b = (
  λ u. (inv a b).1 (b, u, refl),
  λ u. (let j = (inv a b).0 u in subst (λ (x : ℕ). Held out a x) j.2 j.1),
)
power_done n self out base times (suc k) e inv a b = absurd (omega arith)

-- the rows from a on have any number of stretches one after another
abbrev pub ClosedFrom : ℕ → Table → Table → ℕ → Type 0
ClosedFrom n self out a = (x y : ℕ) → Decides (holds out x y) ((a ≤ x) × (x ≤ n) × ((k : ℕ) × Links (Held self) k x y))

pub closed_none : (n : ℕ) (self out : Table) → ((x y : ℕ) → holds out x y ≡ false) → ClosedFrom n self out (n + 1)
closed_none n self out h x y = (λ u. absurd (false≢true (sym (h x y) ∙ u)), λ u. absurd (let p = u.0 in let q = u.1 in omega arith))

pub closed_more : (n : ℕ) (self out next : Table) (a : ℕ) (row made : ℕ → Bool) → a ≤ n → Rising self n →
    ((y : ℕ) → Decides (row y) ((c : ℕ) × Held self a c × Held out c y)) →
    ((y : ℕ) → made y ≡ (eqb y a || row y)) →
    ((x y : ℕ) → holds next x y ≡ cond (eqb x a) (made y) (holds out x y)) →
    ClosedFrom n self out (a + 1) → ClosedFrom n self next a
closed_more n self out next a row made l up d m p inv x y = elim (cases_eq x a) [
  | inl e ↦ (
    λ u. found e (or_cases (eqb y a) (row y) (sym (m y) ∙ sym (cond-true (eqb x a) (made y) _ (eq-eqb x a e)) ∙ sym (p x y) ∙ u)),
    λ u. p x y ∙ cond-true (eqb x a) (made y) _ (eq-eqb x a e) ∙ m y
        ∙ finds u.2.0 (subst (λ (i : ℕ). Links (Held self) u.2.0 i y) e u.2.1),
  )
  | inr ne ↦ (
    λ u. (let r = (inv x y).0 (sym (p x y ∙ cond-false (eqb x a) (made y) _ (ne_eqb x a ne)) ∙ u) in let g = r.0 in
        (omega arith, r.1, r.2)),
    λ u. (let g = u.0 in p x y ∙ cond-false (eqb x a) (made y) _ (ne_eqb x a ne) ∙ (inv x y).1 (omega arith, u.1, u.2)),
  )
]
  where
    found : x ≡ a → (eqb y a ≡ true) ⊎ (row y ≡ true) → (a ≤ x) × (x ≤ n) × ((k : ℕ) × Links (Held self) k x y)
    found e (inl h) = (let q = eqb-true y a h in (omega arith, omega arith, (0, omega arith)))
    found e (inr h) =
        let r = (d y).0 h in
        let s = (inv r.0 y).0 r.2 in
        (omega arith, omega arith, (suc s.2.0, (r.0, ap (λ (i : ℕ). holds self i r.0) e ∙ r.1, s.2.1)))

    finds : (k : ℕ) → Links (Held self) k a y → (eqb y a || row y) ≡ true
    finds zero h = or_left (eqb y a) (row y) (eq-eqb y a (sym h))
    finds (suc k) h =
        let u = up a h.0 h.1 in
        or_right (eqb y a) (row y) ((d y).1 (h.0, h.1, (inv h.0 y).1 (omega arith, u.1, (k, h.2))))

pub closed_all : (n : ℕ) (self out : Table) → ClosedFrom n self out 0 → (a b : ℕ) →
    Decides (holds out a b) ((a ≤ n) × ((k : ℕ) × Links (Held self) k a b))
closed_all n self out inv a b = (λ u. (let r = (inv a b).0 u in (r.1, r.2)), λ u. (inv a b).1 (omega arith, u.0, u.1))
