-- How many stretches of a table lie inside a stretch.
use Rattle.std.proofs.Common.{◌≡◌, ℕ, zero, suc, ◌+◌, ◌-◌, ◌<◌, ◌≤◌, Bool, true, false, cond, ◌&&◌, leb, List, ◌∷◌, ◌++◌, length, sym, refl, ap, ◌∙◌, ap₂, inl, inr, append_assoc, append-nil, arith}
use Rattle.std.proofs.lemmas.List.{length-append}
use Rattle.std.proofs.lemmas.Bool.{cases_Bool, le-leb, lt-leb, and_left, and_right}
use Rattle.ends.specs.Member.{tally}
use Rattle.ends.proofs.Tallies.{tally_append, tally_none, tally_same}
use Rattle.shape.specs.declared.stretch.Stretch.{Stretch}
use Rattle.shape.specs.Ranges.{stretch, row_from, rows_from}

module _ (test : ℕ → ℕ → Bool) where
  -- as many stretches begin at x as ends pass the test
  pub length_row : (d x y : ℕ) → length (row_from d x y test) ≡ tally d y (test x)
  unfolding row_from tally
  length_row zero x y = refl
  length_row (suc d) x y = here (test x y) ∙ ap (λ (m : ℕ). cond (test x y) 1 0 + m) (length_row d x (suc y))
    where
      here : (t : Bool) → length (cond t (stretch x y ∷ row_from d x (suc y) test) (row_from d x (suc y) test)) ≡ cond t 1 0 + length (row_from d x (suc y) test)
      here true = omega arith
      here false = omega arith

  -- one row more, at the end
  pub rows_more : (d x b : ℕ) → rows_from (suc d) x b test ≡ rows_from d x b test ++ row_from (b - (x + d)) (x + d) (suc (x + d)) test
  unfolding rows_from
  rows_more zero x b =
      let e : x ≡ x + 0 = omega arith in
      append-nil _ ∙ ap (λ (i : ℕ). row_from (b - i) i (suc i) test) e
  rows_more (suc d) x b =
      let e : suc x + d ≡ x + suc d = omega arith in
      ap (λ (r : List Stretch). row_from (b - x) x (suc x) test ++ r) (rows_more d (suc x) b)
      ∙ sym (append_assoc (row_from (b - x) x (suc x) test) (rows_from d (suc x) b test) _)
      ∙ ap (λ (i : ℕ). (row_from (b - x) x (suc x) test ++ rows_from d (suc x) b test) ++ row_from (b - i) i (suc i) test) e

-- the ends right of x and up to b, in a row that has none at x or left of it
pub row_tally : (p m : ℕ → Bool) (x b : ℕ) → x < b → b < 256 → ((y : ℕ) → p y ≡ true → x < y) → ((k : ℕ) → x < k → k < 256 → m k ≡ leb k b) →
    tally 256 0 (λ y. p y && m y) ≡ tally (b - x) (suc x) p
row_tally p m x b l s up w =
    let e : 256 ≡ suc x + ((b - x) + (255 - b)) = omega arith in
    let f : suc x + (b - x) ≡ suc b = omega arith in
    let z : 0 + suc x ≡ suc x = omega arith in
    let q : ℕ → Bool = λ y. p y && m y in
    let left : tally (suc x) 0 q ≡ 0 = tally_none q (suc x) 0 (λ k a u. and_left (p k) (m k) (low k (omega arith))) in
    let mid : tally (b - x) (suc x) q ≡ tally (b - x) (suc x) p =
    tally_same q p (b - x) (suc x) (λ k a u. ap (λ (t : Bool). p k && t) (w k (omega arith) (omega arith) ∙ le-leb k b (omega arith)) ∙ and_true (p k)) in
    let right : tally (255 - b) (suc b) q ≡ 0 = tally_none q (255 - b) (suc b) (λ k a u. and_right (p k) (m k) (w k (omega arith) (omega arith) ∙ lt-leb k b (omega arith))) in
    ap (λ (d : ℕ). tally d 0 q) e ∙ tally_append q (suc x) ((b - x) + (255 - b)) 0
    ∙ ap₂ ◌+◌ left (ap (λ (i : ℕ). tally ((b - x) + (255 - b)) i q) z ∙ tally_append q (b - x) (255 - b) (suc x)
    ∙ ap₂ ◌+◌ mid (ap (λ (i : ℕ). tally (255 - b) i q) f ∙ right))
    ∙ omega arith
  where
    and_true : (t : Bool) → (t && true) ≡ t
    and_true true = refl
    and_true false = refl

    low : (k : ℕ) → k ≤ x → p k ≡ false
    low k h = elim (cases_Bool (p k)) [ inl e ↦ absurd (let u = up k e in omega arith) | inr e ↦ e ]

-- one row more is counted
pub inside_more : (test : ℕ → ℕ → Bool) (m : ℕ → Bool) (a b x total more : ℕ) → a ≤ x → x < b → b < 256 →
    ((y : ℕ) → test x y ≡ true → x < y) → ((k : ℕ) → a ≤ k → k < 256 → m k ≡ leb k b) →
    more ≡ tally 256 0 (λ y. test x y && m y) → total ≡ length (rows_from (x - a) a b test) →
    total + more ≡ length (rows_from ((x + 1) - a) a b test)
inside_more test m a b x total more la l s up w e t =
    let f : a + (x - a) ≡ x = omega arith in
    let g : (x + 1) - a ≡ suc (x - a) = omega arith in
    ap₂ ◌+◌ t (e ∙ row_tally (test x) m x b l s up (λ k u. w k (omega arith)) ∙ sym (length_row test (b - x) x (suc x)))
    ∙ sym (length-append (rows_from (x - a) a b test) (row_from (b - x) x (suc x) test))
    ∙ ap (λ (i : ℕ). length (rows_from (x - a) a b test ++ row_from (b - i) i (suc i) test)) (sym f)
    ∙ ap length (sym (rows_more test (x - a) a b))
    ∙ ap (λ (d : ℕ). length (rows_from d a b test)) (sym g)
