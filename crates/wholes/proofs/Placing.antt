-- Parts placed one after another, each as early as it can be.
use Rattle.std.proofs.Common.{◌≡◌, ℕ, suc, ◌+◌, ◌<◌, ◌≤◌, Bool, true, false, ◌&&◌, ◌||◌, ◌⊎◌, ◌↔◌, List, [], ◌∷◌, length, get_or, set, replicate, Option, Some, None, Decides, sym, refl, ap, ◌∙◌, subst, inl, inr, arith}
use Rattle.std.proofs.lemmas.List.{length-set, get_or-set_same, get_or-set_other, get_or_past, get_or-replicate}
use Rattle.std.proofs.lemmas.Bool.{cases_eq, cases_lt, or_cases, or_left, or_right, and_parts, and_from, leb-true, le-leb, false≢true}
use Rattle.std.specs.Option.{option_and_then}
use Rattle.shape.specs.Ranges.{some}
use Rattle.shape.specs.Fits.{Rule, one_after_another}
use Rattle.shape.proofs.Ranges.{some_decides}
use Rattle.ends.specs.Member.{Finds}
use Rattle.tables.specs.declared.table.Table.{Table}
use Rattle.tables.specs.Holds.{holds, Held}
use Rattle.tables.proofs.Grid.{held_row}
use Rattle.wholes.specs.declared.view.View.TheVariants.{From}
use Rattle.wholes.specs.declared.reach.Reach.{Reach}
use Rattle.wholes.specs.Places.{place_of}
use Rattle.wholes.specs.Shows.{Shows}
use Rattle.wholes.specs.Turns.{at, Earliest}

-- one entry is written
entry_put : (xs : List (Option ℕ)) (a : ℕ) (x : Option ℕ) (z : ℕ) → a < length xs →
    ((z ≡ a) × (get_or (set xs a x) z None ≡ x)) ⊎ ((z ≡ a → ⊥) × (get_or (set xs a x) z None ≡ get_or xs z None))
entry_put xs a x z h = elim (cases_eq z a) [
  | inl e ↦ inl (e, ap (λ (i : ℕ). get_or (set xs a x) i None) e ∙ get_or-set_same xs a x None h)
  | inr n ↦ inr (n, get_or-set_other xs a z x None n)
]

-- an entry of a list without a position
pub nowhere : (z : ℕ) → place_of (get_or (replicate 256 None) z None) ≡ 256
nowhere z = elim (cases_lt z 256) [
  | inl l ↦ ap place_of (get_or-replicate 256 z None None l)
  | inr g ↦ ap place_of (get_or_past (replicate 256 None) z None g)
]

-- from past the line nothing is reached
pub past_line : (r : Reach) (z : ℕ) → 256 ≤ z → at r z ≡ 256
past_line r z g = let w = r.whole in ap place_of (get_or_past r.ends z None (omega arith))

-- what is reached after two parts
pub reached_then : (self part : Reach) (from : ℕ) (o : Option ℕ) → o ≡ option_and_then (λ c. get_or part.ends c None) (get_or self.ends from None) →
    place_of o ≡ at part (at self from)
reached_then self part from o e = ap place_of e ∙ here (get_or self.ends from None)
  where
    here : (x : Option ℕ) → place_of (option_and_then (λ c. get_or part.ends c None) x) ≡ at part (place_of x)
    here (Some c) = refl
    here None = sym (past_line part 256 (omega arith))

-- a list of entries of which those below a are written
pub record Written (f : ℕ → ℕ) (xs : List (Option ℕ)) (a : ℕ) : Type 0 where
  pub long : length xs ≡ 256
  pub done : (k : ℕ) → k < a → place_of (get_or xs k None) ≡ f k
  pub small : (k : ℕ) → place_of (get_or xs k None) ≤ 256

pub written_none : (f : ℕ → ℕ) → Written f (replicate 256 None) 0
written_none f = record {
  long = refl;
  done = λ k l. absurd (omega arith);
  small = λ k. (let e = nowhere k in omega arith);
}

pub written_more : (f : ℕ → ℕ) (xs : List (Option ℕ)) (a : ℕ) (x : Option ℕ) → a < 256 → place_of x ≡ f a → place_of x ≤ 256 →
    Written f xs a → Written f (set xs a x) (a + 1)
written_more f xs a x l e u w =
    let q = w.long in
    record {
      long = length-set xs a x ∙ q;
      done = λ k v. elim (entry_put xs a x k (omega arith)) [
        | inl p ↦ ap place_of p.1 ∙ e ∙ ap f (sym p.0)
        | inr p ↦ ap place_of p.1 ∙ w.done k (let n = p.0 in omega arith)
      ];
      small = λ k. elim (entry_put xs a x k (omega arith)) [
        | inl p ↦ (let r = ap place_of p.1 in omega arith)
        | inr p ↦ (let r = ap place_of p.1 in let t = w.small k in omega arith)
      ];
    }

-- the ends of the rows from x on are gathered, and the entries from x on are the first ends
pub record EndsFrom (t : Table) (reached : ℕ → Bool) (xs : List (Option ℕ)) (x : ℕ) : Type 0 where
  pub long : length xs ≡ 256
  pub ends : (b : ℕ) → Decides (reached b) ((z : ℕ) × (x ≤ z) × Held t z b)
  pub done : (z : ℕ) → x ≤ z → z < 256 → Earliest t z (place_of (get_or xs z None))

pub ends_none : (t : Table) (reached : ℕ → Bool) → ((b : ℕ) → reached b ≡ false) → EndsFrom t reached (replicate 256 None) 256
ends_none t reached h = record {
  long = refl;
  ends = λ b. (
    λ u. absurd (false≢true (sym (h b) ∙ u)),
    λ u. absurd (let l = held_row t u.0 b u.2 in let o = u.1 in omega arith),
  );
  done = λ z l u. absurd (omega arith);
}

-- the lowest of the ends that are gathered
first_end : (t : Table) (reached : ℕ → Bool) (x : ℕ) (r : Option ℕ) → ((b : ℕ) → Decides (reached b) ((z : ℕ) × (x ≤ z) × Held t z b)) →
    Finds reached 0 r → Earliest t x (place_of r)
first_end t reached x (Some b) d f = record {
  small = let l = f.0 in omega arith;
  found = λ l. (d b).0 (f.1.found l);
  least = λ z y m u h. elim (cases_lt y b) [
    | inl v ↦ absurd (false≢true (sym (f.1.skipped y (omega arith) v) ∙ (d y).1 (z, m, h)))
    | inr v ↦ v
  ];
}
first_end t reached x None d f = record {
  small = omega arith;
  found = λ l. absurd (omega arith);
  least = λ z y m u h. absurd (false≢true (sym (f y (omega arith) u) ∙ (d y).1 (z, m, h)));
}

pub ends_more : (t : Table) (reached more : ℕ → Bool) (row : ℕ → Bool) (xs : List (Option ℕ)) (x : ℕ) (r : Option ℕ) → x < 256 →
    ((b : ℕ) → row b ≡ holds t x b) → ((b : ℕ) → more b ≡ (reached b || row b)) → Finds more 0 r →
    EndsFrom t reached xs (x + 1) → EndsFrom t more (set xs x r) x
ends_more t reached more row xs x r l e m f w =
    let q = w.long in
    let all : (b : ℕ) → Decides (more b) ((z : ℕ) × (x ≤ z) × Held t z b) = λ b. (
      λ u. elim (or_cases (reached b) (row b) (sym (m b) ∙ u)) [
        | inl h ↦ (let g = (w.ends b).0 h in let o = g.1 in (g.0, omega arith, g.2))
        | inr h ↦ (x, omega arith, sym (e b) ∙ h)
      ],
      λ u. m b ∙ elim (cases_eq u.0 x) [
        | inl c ↦ or_right (reached b) (row b) (e b ∙ subst (λ (i : ℕ). Held t i b) c u.2)
        | inr c ↦ or_left (reached b) (row b) ((w.ends b).1 (u.0, (let o = u.1 in omega arith), u.2))
      ],
    ) in
    record {
      long = length-set xs x r ∙ q;
      ends = all;
      done = λ z u v. elim (entry_put xs x r z (omega arith)) [
        | inl c ↦ subst (λ (i : ℕ). Earliest t i (place_of (get_or (set xs x r) z None))) (sym c.0)
            (subst (λ (o : Option ℕ). Earliest t x (place_of o)) (sym c.1) (first_end t more x r all f))
        | inr c ↦ subst (λ (o : Option ℕ). Earliest t z (place_of o)) (sym c.1) (w.done z (let n = c.0 in omega arith) v)
      ];
    }

pub ends_all : (t : Table) (reached : ℕ → Bool) (xs : List (Option ℕ)) → EndsFrom t reached xs 0 → (x : ℕ) → x ≤ 256 → Earliest t x (place_of (get_or xs x None))
ends_all t reached xs w x l = elim (cases_lt x 256) [
  | inl u ↦ w.done x (omega arith) u
  | inr g ↦
      (let q = w.long in
      let e = ap place_of (get_or_past xs x None (omega arith)) in
      record {
        small = omega arith;
        found = λ v. absurd (omega arith);
        least = λ z y m v h. absurd (let r = held_row t z y h in omega arith);
      })
]

-- parts that can be placed from y on can be placed from further left
pub sooner : (Ps : List Rule) (s x y b : ℕ) → x ≤ y → one_after_another Ps s y b ≡ true → one_after_another Ps s x b ≡ true
unfolding one_after_another
sooner [] s x y b l e = let u = leb-true y b e in le-leb x b (omega arith)
sooner (P ∷ Ps) s x y b l e =
    let t : ℕ → Bool = λ i. some i (suc b) (λ j. P s i j && one_after_another Ps s j b) in
    let r = (some_decides t y (suc b)).0 e in
    let o = r.1 in
    (some_decides t x (suc b)).1 (r.0, omega arith, r.2, r.3)

-- what is reached, and what is left to be placed from there, for each start from s on and each end up to `to`
pub record Reaches (all left : List Rule) (s to : ℕ) (reach : ℕ → ℕ) : Type 0 where
  pub above : (a : ℕ) → a < 256 → a ≤ reach a
  pub small : (a : ℕ) → reach a ≤ 256
  pub placed : (a b : ℕ) → s ≤ a → a ≤ b → b ≤ to → (one_after_another all s a b ≡ true) ↔ ((reach a ≤ b) × (one_after_another left s (reach a) b ≡ true))

pub reaches_start : (all : List Rule) (s to : ℕ) (reach : ℕ → ℕ) → to < 256 → ((a : ℕ) → a < 256 → reach a ≡ a) → ((a : ℕ) → reach a ≤ 256) →
    Reaches all all s to reach
reaches_start all s to reach small e m = record {
  above = λ a l. (let q = e a l in omega arith);
  small = m;
  placed = λ a b l u h.
      let q = e a (omega arith) in
      (λ o. (omega arith, subst (λ (i : ℕ). one_after_another all s i b ≡ true) (sym q) o), λ o. subst (λ (i : ℕ). one_after_another all s i b ≡ true) q o.1);
}

pub reaches_more : (P : Rule) (all left : List Rule) (s to n : ℕ) (table : Table) (reach next : ℕ → ℕ) (part : ℕ → ℕ) →
    to ≤ n → n < 256 → Shows table P (From s) to n → ((x : ℕ) → x ≤ 256 → Earliest table x (part x)) →
    ((a : ℕ) → a < 256 → next a ≡ part (reach a)) → ((a : ℕ) → next a ≤ 256) →
    Reaches all (P ∷ left) s to reach → Reaches all left s to next
unfolding one_after_another
reaches_more P all left s to n table reach next part ln small shown first e m inv = record {
  above = λ a l. above a l;
  small = m;
  placed = λ a b l u h. (
    λ o. (let r = (inv.placed a b l u h).0 o in there a b l u h r.1),
    λ o. (inv.placed a b l u h).1 (back a b l u h o.0 o.1),
  );
}
  where
    -- a stretch of the part that begins where something is reached ends there or further right
    goes_up : (x : ℕ) → x ≤ 256 → part x < 256 → (z : ℕ) × (x ≤ z) × (s ≤ z) × (z ≤ part x) × (part x ≤ n) × (P s z (part x) ≡ true)
    goes_up x b l =
        let r = (first x b).found l in
        let f = shown.sound r.0 (part x) r.2 in
        (r.0, r.1, f.low, f.up, f.high, f.fit)

    above : (a : ℕ) → a < 256 → a ≤ next a
    above a l =
        let q = e a l in
        let o = inv.above a l in
        elim (cases_lt (part (reach a)) 256) [
          | inl v ↦ (let r = goes_up (reach a) (inv.small a) v in let x = r.1 in let y = r.3 in omega arith)
          | inr g ↦ omega arith
        ]

    there : (a b : ℕ) → s ≤ a → a ≤ b → b ≤ to → one_after_another (P ∷ left) s (reach a) b ≡ true →
        (next a ≤ b) × (one_after_another left s (next a) b ≡ true)
    there a b l u h o =
        let r = (some_decides (λ i. some i (suc b) (λ j. P s i j && one_after_another left s j b)) (reach a) (suc b)).0 o in
        let t = (some_decides (λ j. P s r.0 j && one_after_another left s j b) r.0 (suc b)).0 r.3 in
        let p = and_parts (P s r.0 t.0) (one_after_another left s t.0 b) t.3 in
        let q = e a (omega arith) in
        let above-a = inv.above a (omega arith) in
        let x = r.1 in
        let y = t.2 in
        let held = shown.full r.0 t.0 (record { low = omega arith; up = t.1; high = omega arith; fit = p.0 }) in
        let least = (first (reach a) (inv.small a)).least r.0 t.0 x (omega arith) held in
        (omega arith, sooner left s (next a) t.0 b (omega arith) p.1)

    back : (a b : ℕ) → s ≤ a → a ≤ b → b ≤ to → next a ≤ b → one_after_another left s (next a) b ≡ true →
        (reach a ≤ b) × (one_after_another (P ∷ left) s (reach a) b ≡ true)
    back a b l u h nb o =
        let q = e a (omega arith) in
        let r = goes_up (reach a) (inv.small a) (omega arith) in
        let x = r.1 in
        let y = r.3 in
        let tail : one_after_another left s (part (reach a)) b ≡ true = subst (λ (i : ℕ). one_after_another left s i b ≡ true) q o in
        let in_row = (some_decides (λ j. P s r.0 j && one_after_another left s j b) r.0 (suc b)).1
        (part (reach a), y, omega arith, and_from (P s r.0 (part (reach a))) _ r.5 tail) in (
          omega arith,
          (some_decides (λ i. some i (suc b) (λ j. P s i j && one_after_another left s j b)) (reach a) (suc b)).1 (r.0, x, omega arith, in_row),
        )

-- all is placed
pub reaches_all : (all : List Rule) (s to : ℕ) (reach : ℕ → ℕ) → Reaches all [] s to reach →
    (a b : ℕ) → s ≤ a → a ≤ b → b ≤ to → Decides (one_after_another all s a b) (reach a ≤ b)
unfolding one_after_another
reaches_all all s to reach inv a b l u h = (
  λ o. ((inv.placed a b l u h).0 o).0,
  λ o. (inv.placed a b l u h).1 (o, le-leb (reach a) b o),
)
