-- A whole's parts one after another: what is done, with what is left, gives the whole.
use Rattle.std.proofs.Common.{◌≡◌, ℕ, suc, ◌+◌, ◌≤◌, Bool, true, ◌&&◌, ◌||◌, ◌⊎◌, ◌↔◌, List, [], ◌∷◌, Decides, sym, refl, ◌∙◌, subst, inl, inr, arith}
use Rattle.std.proofs.lemmas.Bool.{or_cases, or_left, or_right, and_parts, and_from, false≢true}
use Rattle.shape.specs.Fits.{Rule, one_of, all_of, sequence}
use Rattle.shape.proofs.Ranges.{some_decides}
use Rattle.tables.specs.declared.table.Table.{Table}
use Rattle.tables.specs.Holds.{holds, Held, Joined}
use Rattle.wholes.specs.declared.view.View.{View}
use Rattle.wholes.specs.declared.view.View.TheVariants.{Own}
use Rattle.wholes.specs.Shows.{seen_from, lowest, Fit, Shows}

-- one of the parts: the table has those of the parts that are done
pub record Either (all left : List Rule) (v : View) (to n : ℕ) (out : Table) : Type 0 where
  pub sound : (a b : ℕ) → Held out a b → Fit (one_of all) v n a b
  pub full : (a b : ℕ) → Fit (one_of all) v to a b → Held out a b ⊎ (one_of left (seen_from v a) a b ≡ true)
  pub among : (s a b : ℕ) → one_of left s a b ≡ true → one_of all s a b ≡ true

module _ (all : List Rule) (v : View) (to n : ℕ) where
  pub either_more : (P : Rule) (left : List Rule) (out part new : Table) → to ≤ n → Shows part P v to n →
      ((a b : ℕ) → holds new a b ≡ (holds out a b || holds part a b)) → Either all (P ∷ left) v to n out → Either all left v to n new
  either_more P left out part new l shown m inv = record {
    sound = λ a b h. elim (or_cases (holds out a b) (holds part a b) (sym (m a b) ∙ h)) [
      | inl o ↦ inv.sound a b o
      | inr o ↦
          (let f = shown.sound a b o in
          record { low = f.low; up = f.up; high = f.high; fit = inv.among (seen_from v a) a b (or_left (P (seen_from v a) a b) _ f.fit) })
    ];
    full = λ a b f. elim (inv.full a b f) [
      | inl o ↦ inl (m a b ∙ or_left (holds out a b) _ o)
      | inr o ↦ elim (or_cases (P (seen_from v a) a b) (one_of left (seen_from v a) a b) o) [
        | inl p ↦ inl (m a b ∙ or_right (holds out a b) _ (shown.full a b (record { low = f.low; up = f.up; high = f.high; fit = p })))
        | inr p ↦ inr p
      ]
    ];
    among = λ s a b h. inv.among s a b (or_right (P s a b) _ h);
  }

  pub either_all : (out : Table) → Either all [] v to n out → Shows out (one_of all) v to n
  either_all out inv = record {
    sound = inv.sound;
    full = λ a b f. elim (inv.full a b f) [ inl o ↦ o | inr o ↦ absurd (false≢true o) ];
  }

-- the parts that are left go on from c to b
abbrev pub Onward : List Rule → ℕ → ℕ → Type 0
Onward [] c b = c ≡ b
Onward (Q ∷ Qs) c b = sequence (Q ∷ Qs) c c b ≡ true

-- a sequence is its first part, and the others onward
pub sequence_decides : (P : Rule) (Ps : List Rule) (s a b : ℕ) → a ≤ b →
    Decides (sequence (P ∷ Ps) s a b) ((c : ℕ) × (a ≤ c) × (c ≤ b) × (P s a c ≡ true) × Onward Ps c b)
unfolding sequence
sequence_decides P [] s a b l = (
  λ h. (b, l, omega arith, h, refl),
  λ h. subst (λ (x : ℕ). P s a x ≡ true) h.4 h.3,
)
sequence_decides P (Q ∷ Qs) s a b l =
    let d = some_decides (λ c. P s a c && sequence (Q ∷ Qs) c c b) a (suc b) in (
      λ h. (let r = d.0 h in
          let p = and_parts (P s a r.0) (sequence (Q ∷ Qs) r.0 r.0 b) r.3 in
          let u = r.2 in
          (r.0, r.1, omega arith, p.0, p.1)),
      λ h. (let u = h.2 in d.1 (h.0, h.1, omega arith, and_from (P s a h.0) _ h.3 h.4)),
    )

-- a sequence: the table has those of the parts that are done
pub record Sequel (all left : List Rule) (v : View) (to n : ℕ) (out : Table) : Type 0 where
  pub sound : (a c : ℕ) → Held out a c →
      (lowest v ≤ a) × (a ≤ c) × (c ≤ n) × ((b : ℕ) → c ≤ b → Onward left c b → sequence all (seen_from v a) a b ≡ true)
  pub full : (a b : ℕ) → Fit (sequence all) v to a b → (c : ℕ) × Held out a c × (c ≤ b) × Onward left c b

module _ (v : View) (to n : ℕ) (l : to ≤ n) where
  pub sequel_start : (P : Rule) (left : List Rule) (out : Table) → Shows out P v to n → Sequel (P ∷ left) left v to n out
  sequel_start P left out shown = record {
    sound = λ a c h.
        let f = shown.sound a c h in
        let u = f.up in
        (f.low, f.up, f.high, λ b m o. (sequence_decides P left (seen_from v a) a b (omega arith)).1 (c, f.up, m, f.fit, o));
    full = λ a b f.
        let r = (sequence_decides P left (seen_from v a) a b f.up).0 f.fit in
        let h = f.high in
        let u = r.2 in
        (r.0, shown.full a r.0 (record { low = f.low; up = r.1; high = omega arith; fit = r.3 }), r.2, r.4);
  }

  pub sequel_more : (all : List Rule) (Q : Rule) (left : List Rule) (out own new : Table) → Shows own Q Own n n →
      ((a b : ℕ) → Decides (holds new a b) (Joined (Held out) (Held own) a b)) → Sequel all (Q ∷ left) v to n out → Sequel all left v to n new
  sequel_more all Q left out own new shown d inv = record {
    sound = λ a c h.
        let j = (d a c).0 h in
        let s = inv.sound a j.0 j.1 in
        let f = shown.sound j.0 c j.2 in
        let x = s.1 in
        let y = f.up in (
          s.0,
          omega arith,
          f.high,
          λ b m o. s.3 b (omega arith) ((sequence_decides Q left j.0 j.0 b (omega arith)).1 (c, y, m, f.fit, o)),
        );
    full = λ a b f.
        let r = inv.full a b f in
        let q = (sequence_decides Q left r.0 r.0 b r.2).0 r.3 in
        let h = f.high in
        let u = q.2 in
        (q.0, (d a q.0).1 (r.0, r.1, shown.full r.0 q.0 (record { low = omega arith; up = q.1; high = omega arith; fit = q.3 })), q.2, q.4);
  }

  pub sequel_all : (all : List Rule) (out : Table) → Sequel all [] v to n out → Shows out (sequence all) v to n
  sequel_all all out inv = record {
    sound = λ a b h.
        let s = inv.sound a b h in
        record { low = s.0; up = s.1; high = s.2; fit = s.3 b (omega arith) refl };
    full = λ a b f. (let r = inv.full a b f in subst (λ (x : ℕ). Held out a x) r.3 r.1);
  }

-- conditions on windows: the set has the starts at which those of the parts that are done hold
module _ (all : List Rule) (s len to : ℕ) where
  -- one of them
  pub record AnyStart (left : List Rule) (out : ℕ → Bool) : Type 0 where
    pub sound : (a : ℕ) → out a ≡ true → (s ≤ a) × (a + len ≤ to) × (one_of all s a (a + len) ≡ true)
    pub full : (a : ℕ) → s ≤ a → a + len ≤ to → one_of all s a (a + len) ≡ true → (out a ≡ true) ⊎ (one_of left s a (a + len) ≡ true)
    pub among : (a : ℕ) → one_of left s a (a + len) ≡ true → one_of all s a (a + len) ≡ true

  pub any_start_more : (P : Rule) (left : List Rule) (out part new : ℕ → Bool) →
      ((a : ℕ) → Decides (part a) ((s ≤ a) × (a + len ≤ to) × (P s a (a + len) ≡ true))) →
      ((a : ℕ) → new a ≡ (out a || part a)) → AnyStart (P ∷ left) out → AnyStart left new
  any_start_more P left out part new d m inv = record {
    sound = λ a h. elim (or_cases (out a) (part a) (sym (m a) ∙ h)) [
      | inl o ↦ inv.sound a o
      | inr o ↦ (let r = (d a).0 o in (r.0, r.1, inv.among a (or_left (P s a (a + len)) _ r.2)))
    ];
    full = λ a l u h. elim (inv.full a l u h) [
      | inl o ↦ inl (m a ∙ or_left (out a) _ o)
      | inr o ↦ elim (or_cases (P s a (a + len)) (one_of left s a (a + len)) o) [
        | inl p ↦ inl (m a ∙ or_right (out a) _ ((d a).1 (l, u, p)))
        | inr p ↦ inr p
      ]
    ];
    among = λ a h. inv.among a (or_right (P s a (a + len)) _ h);
  }

  pub any_start_all : (out : ℕ → Bool) → AnyStart [] out → (a : ℕ) → Decides (out a) ((s ≤ a) × (a + len ≤ to) × (one_of all s a (a + len) ≡ true))
  any_start_all out inv a = (
    inv.sound a,
    λ h. elim (inv.full a h.0 h.1 h.2) [ inl o ↦ o | inr o ↦ absurd (false≢true o) ],
  )

  -- all of them
  pub record AllStart (left : List Rule) (out : ℕ → Bool) : Type 0 where
    pub within : (a : ℕ) → out a ≡ true → (s ≤ a) × (a + len ≤ to)
    pub both : (a : ℕ) → s ≤ a → a + len ≤ to → (all_of all s a (a + len) ≡ true) ↔ ((out a ≡ true) × (all_of left s a (a + len) ≡ true))

  pub all_start_more : (P : Rule) (left : List Rule) (out part new : ℕ → Bool) →
      ((a : ℕ) → Decides (part a) ((s ≤ a) × (a + len ≤ to) × (P s a (a + len) ≡ true))) →
      ((a : ℕ) → new a ≡ (out a && part a)) → AllStart (P ∷ left) out → AllStart left new
  all_start_more P left out part new d m inv = record {
    within = λ a h. inv.within a (and_parts (out a) (part a) (sym (m a) ∙ h)).0;
    both = λ a l u. (
      λ h. (let r = (inv.both a l u).0 h in
          let p = and_parts (P s a (a + len)) (all_of left s a (a + len)) r.1 in
          (m a ∙ and_from (out a) (part a) r.0 ((d a).1 (l, u, p.0)), p.1)),
      λ h. (let p = and_parts (out a) (part a) (sym (m a) ∙ h.0) in
          (inv.both a l u).1 (p.0, and_from (P s a (a + len)) _ ((d a).0 p.1).2 h.1)),
    );
  }

  pub all_start_all : (out : ℕ → Bool) → AllStart [] out → (a : ℕ) → Decides (out a) ((s ≤ a) × (a + len ≤ to) × (all_of all s a (a + len) ≡ true))
  all_start_all out inv a = (
    λ h. (let w = inv.within a h in (w.0, w.1, (inv.both a w.0 w.1).1 (h, refl))),
    λ h. ((inv.both a h.0 h.1).0 h.2).0,
  )
