-- Symbols, counts and windows as tables show them.
use Rattle.std.proofs.Common.{◌≡◌, ℕ, zero, suc, ◌+◌, ◌-◌, ◌<◌, ◌≤◌, Bool, true, cond, ◌||◌, eqb, ltb, leb, List, ◌∷◌, ◌++◌, length, get_or, Decides, sym, refl, ap, ◌∙◌, subst, ap₂, inl, inr, arith}
use Rattle.std.proofs.lemmas.List.{get_or_past}
use Rattle.std.proofs.lemmas.Bool.{and_parts, and_from, false≢true, eqb-true, eq-eqb, cases_lt}
use Rattle.std.proofs.lemmas.Bool.Decides.{nat_tests, same_from_decides}
use Rattle.word.specs.Words.{has}
use Rattle.word.proofs.Bits.{has_none}
use Rattle.shape.specs.declared.stretch.Stretch.{Stretch}
use Rattle.shape.specs.Ranges.{stretch, row_from, rows_from, inside}
use Rattle.shape.specs.Fits.{Rule, times}
use Rattle.ends.specs.declared.Ends.{Ends}
use Rattle.ends.specs.Member.{member}
use Rattle.tables.specs.declared.table.Table.{Table}
use Rattle.tables.specs.Holds.{holds, Held}
use Rattle.wholes.specs.declared.view.View.{View}
use Rattle.wholes.specs.declared.view.View.TheVariants.{From}
use Rattle.wholes.specs.declared.view.Many.{Many}
use Rattle.wholes.specs.Shows.{seen_from, lowest, allowed, carrying, counting, windowed, Shows, Starts}

-- only a step of the line carries a symbol
pub carried_within : (words : List ℕ) (a j : ℕ) → has (get_or words a 0) j ≡ true → a < length words
carried_within words a j e = elim (cases_lt a (length words)) [
  | inl u ↦ u
  | inr g ↦ absurd (false≢true (sym (ap (λ (w : ℕ). has w j) (get_or_past words a 0 g) ∙ has_none j) ∙ e))
]

-- a step from the lowest position on that carries the symbol
abbrev pub Carried : List ℕ → ℕ → ℕ → ℕ → ℕ → Type 0
Carried words j lo x y = (lo ≤ x) × (y ≡ x + 1) × (has (get_or words x 0) j ≡ true)

pub symbol_shows : (words : List ℕ) (j : ℕ) (v : View) (lo to a : ℕ) (out : Table) → lo ≡ lowest v → to ≤ a →
    ((x y : ℕ) → Decides (holds out x y) ((x < a) × Carried words j lo x y)) →
    Shows out (carrying words j) v to (length words)
symbol_shows words j v lo to a out q l inv = record {
  sound = λ x y h.
      let r = (inv x y).0 h in
      let e = r.1.1 in
      let u = carried_within words x j r.1.2 in
      record {
        low = (let o = r.1.0 in omega arith);
        up = omega arith;
        high = omega arith;
        fit = and_from (eqb y (suc x)) _ (eq-eqb y (suc x) (omega arith)) r.1.2;
      };
  full = λ x y f.
      let p = and_parts (eqb y (suc x)) (has (get_or words x 0) j) f.fit in
      let e = eqb-true y (suc x) p.0 in
      let h = f.high in
      let o = f.low in
      (inv x y).1 (omega arith, (omega arith, omega arith, p.1));
}

-- two tests that agree on the stretches inside
row_same : (test other : ℕ → ℕ → Bool) (d x y : ℕ) → ((k : ℕ) → y ≤ k → k < y + d → test x k ≡ other x k) → row_from d x y test ≡ row_from d x y other
unfolding row_from
row_same test other zero x y h = refl
row_same test other (suc d) x y h =
    ap₂ (λ (t : Bool) (r : List Stretch). cond t (stretch x y ∷ r) r) (h y (omega arith) (omega arith))
    (row_same test other d x (suc y) (λ k l u. h k (omega arith) (omega arith)))

rows_same : (test other : ℕ → ℕ → Bool) (d x b : ℕ) → ((p q : ℕ) → x ≤ p → p < x + d → p < q → q ≤ b → test p q ≡ other p q) →
    rows_from d x b test ≡ rows_from d x b other
unfolding rows_from
rows_same test other zero x b h = refl
rows_same test other (suc d) x b h =
    ap₂ ◌++◌ (row_same test other (b - x) x (suc x) (λ k l u. h x k (omega arith) (omega arith) (omega arith) (omega arith)))
    (rows_same test other d (suc x) b (λ p q l u. h p q (omega arith) (omega arith)))

pub inside_same : (test other : ℕ → ℕ → Bool) (a b : ℕ) → ((p q : ℕ) → a ≤ p → p < q → q ≤ b → test p q ≡ other p q) →
    inside test a b ≡ inside other a b
inside_same test other a b h = rows_same test other (b - a) a b (λ p q l u. h p q l)

-- a table shows how often a rule fits inside
pub times_shown : (P : Rule) (s to n : ℕ) (table rising : Table) → to < 256 → Shows table P (From s) to n →
    ((a b : ℕ) → Decides (holds rising a b) ((a < b) × (b < 256) × Held table a b)) →
    (a b : ℕ) → s ≤ a → b ≤ to → length (inside (holds rising) a b) ≡ times P s a b
unfolding times
times_shown P s to n table rising small shown rises a b l u =
    ap length (inside_same (holds rising) (P s) a b (λ p q lo lt hi.
    same_from_decides (holds rising p q) (P s p q) (rises p q) (
      λ e. (lt, omega arith, shown.full p q (record { low = omega arith; up = omega arith; high = omega arith; fit = e })),
      λ h. (shown.sound p q h.2).fit,
    )))

-- windows that begin below a and have so many stretches inside
abbrev pub Counted : Table → Many → ℕ → ℕ → ℕ → ℕ → Type 0
Counted rising many s len to x = (s ≤ x) × (x + len ≤ to) × (allowed many (length (inside (holds rising) x (x + len))) ≡ true)

pub counted_starts : (P : Rule) (many : Many) (s len to n a : ℕ) (table rising : Table) (out : Ends) → to < 256 → to < a + len →
    Shows table P (From s) to n → ((a b : ℕ) → Decides (holds rising a b) ((a < b) × (b < 256) × Held table a b)) →
    ((x : ℕ) → Decides (member out x) ((x < a) × Counted rising many s len to x)) →
    Starts out (counting P many) (From s) len to
counted_starts P many s len to n a table rising out small past shown rises inv x = (
  λ u. (let r = (inv x).0 u in
      (r.1.0, r.1.1, sym (ap (allowed many) (times_shown P s to n table rising small shown rises x (x + len) r.1.0 r.1.1)) ∙ r.1.2)),
  λ h. (let o = h.1 in
      (inv x).1 (omega arith, (h.0, h.1, ap (allowed many) (times_shown P s to n table rising small shown rises x (x + len) h.0 h.1) ∙ h.2))),
)

-- the positions up to the end of the window at a, where those up to the end of the one before are there
pub one_further : (s len a k : ℕ) (old new : Bool) → s ≤ a → old ≡ (leb k (s + len) || ltb k (a + len)) → new ≡ (eqb k (a + len) || old) →
    new ≡ leb k (a + len)
one_further s len a k old new l o e = e ∙ ap (λ (t : Bool). eqb k (a + len) || t) o ∙ grind (arith, nat_tests)

-- windows of a length, by their starts
pub window_shows : (Q : Rule) (v : View) (starts : Ends) (len to n a : ℕ) (out : Table) → to ≤ n → to < a → Starts starts Q v len to →
    ((x y : ℕ) → Decides (holds out x y) ((x < a) × ((member starts x ≡ true) × (y ≡ x + len)))) →
    Shows out (windowed Q len) v to n
window_shows Q v starts len to n a out l past st inv = record {
  sound = λ x y h.
      let r = (inv x y).0 h in
      let e = r.1.1 in
      let d = (st x).0 r.1.0 in
      let u = d.1 in
      record {
        low = d.0;
        up = omega arith;
        high = omega arith;
        fit = and_from (eqb y (x + len)) _ (eq-eqb y (x + len) e) (subst (λ (i : ℕ). Q (seen_from v x) x i ≡ true) (sym e) d.2);
      };
  full = λ x y f.
      let p = and_parts (eqb y (x + len)) (Q (seen_from v x) x y) f.fit in
      let e = eqb-true y (x + len) p.0 in
      let h = f.high in
      (inv x y).1 (omega arith, ((st x).1 (f.low, omega arith, subst (λ (i : ℕ). Q (seen_from v x) x i ≡ true) e p.1), e));
}
