-- The bits of a word.
use Rattle.std.proofs.Common.{◌≡◌, ℕ, zero, suc, ◌+◌, ◌-◌, ◌*◌, ◌/◌, ◌%◌, ◌^◌, ◌<◌, ◌≤◌, Bool, true, false, cond, eqb, sym, refl, ap, ◌∙◌, ⊎_elim, pow-suc, add-one, arith, pow_mono}
use native.Mathlib.Nat.{pow-succ', add-mul-div_left, add-mul-mod_self_left, div-eq_of_lt, zero-div}
use lib.Pow.{high}
use Rattle.std.proofs.lemmas.Nat.{pow_pos, pow-add}
use Rattle.std.proofs.lemmas.Bool.{cases_eq}
use Rattle.word.specs.Words.{has, word_of}

-- a word of n bits has no symbol from n on
pub has_past : (n w j : ℕ) → w < 2 ^ n → n ≤ j → has w j ≡ false
unfolding has
has_past n w j h l =
    let p : 2 ^ n ≤ 2 ^ j = pow_mono l in
    let s : w < 2 ^ j = omega arith in
    ap (λ m. eqb (m % 2) 1) (div-eq_of_lt s)

-- the empty word has none
pub has_none : (j : ℕ) → has 0 j ≡ false
unfolding has
has_none j = ap (λ m. eqb (m % 2) 1) (zero-div (2 ^ j))

module _ (test : ℕ → Bool) where
  pub word_below : (n : ℕ) → word_of test n < 2 ^ n
  word_below zero = omega arith
  word_below (suc n) =
      let h = word_below n in
      let e = pow-suc 2 n in
      elim (test n) as (λ t. word_of test n + cond t (2 ^ n) 0 < 2 ^ suc n) [ true ↦ omega arith | false ↦ omega arith ]

  digit : (t : Bool) → eqb (cond t 1 0 % 2) 1 ≡ t
  digit true = refl
  digit false = refl

  at_top : (m w : ℕ) (t : Bool) → w < 2 ^ m → has (w + cond t (2 ^ m) 0) m ≡ t
  unfolding has
  at_top m w t h =
      let e : w + cond t (2 ^ m) 0 ≡ cond t 1 0 * 2 ^ m + w =
      elim t as (λ b. w + cond b (2 ^ m) 0 ≡ cond b 1 0 * 2 ^ m + w) [ true ↦ omega arith | false ↦ omega arith ] in
      ap (λ n. eqb (n / 2 ^ m % 2) 1) e ∙ ap (λ n. eqb (n % 2) 1) (high (cond t 1 0) m h) ∙ digit t

  under_top : (j d w : ℕ) (t : Bool) → has (w + cond t (2 ^ (j + suc d)) 0) j ≡ has w j
  unfolding has
  under_top j d w t =
      let p : 2 ^ (j + suc d) ≡ 2 ^ j * (2 * 2 ^ d) = pow-add 2 j (suc d) ∙ ap (λ n. 2 ^ j * n) (pow-succ' 2 d) in
      let e : w + cond t (2 ^ (j + suc d)) 0 ≡ w + 2 ^ j * (2 * cond t (2 ^ d) 0) =
      elim t as (λ b. w + cond b (2 ^ (j + suc d)) 0 ≡ w + 2 ^ j * (2 * cond b (2 ^ d) 0))
      [ true ↦ ap (λ n. w + n) p | false ↦ omega arith ] in
      ap (λ n. eqb (n / 2 ^ j % 2) 1) e
      ∙ ap (λ n. eqb (n % 2) 1) (add-mul-div_left w (2 * cond t (2 ^ d) 0) (pow_pos j))
      ∙ ap (λ n. eqb n 1) (add-mul-mod_self_left (w / 2 ^ j) 2 (cond t (2 ^ d) 0))

  -- a symbol is in the word just where it passes the test
  pub has_word : (n j : ℕ) → j < n → has (word_of test n) j ≡ test j
  has_word zero j h = absurd (omega arith)
  has_word (suc m) j h =
      ⊎_elim (λ e. ap (has (word_of test (suc m))) e ∙ at_top m (word_of test m) (test m) (word_below m) ∙ ap test (sym e))
      (λ ne.
      let lt : j < m = omega arith in
      let e : m ≡ j + suc (m - suc j) = omega arith in
      ap (λ k. has (word_of test m + cond (test m) (2 ^ k) 0) j) e ∙ under_top j (m - suc j) (word_of test m) (test m) ∙ has_word m j lt)
      (cases_eq j m)

  -- one symbol more is tried: it passes, or it does not
  pub word_in : (n w w' : ℕ) → w ≡ word_of test n → true ≡ test n → w' ≡ w + 2 ^ n → w' ≡ word_of test (n + 1)
  word_in n w w' is on e =
      e ∙ ap (λ x. x + 2 ^ n) is ∙ ap (λ t. word_of test n + cond t (2 ^ n) 0) on ∙ sym (ap (word_of test) (add-one n))

  pub word_out : (n w : ℕ) → w ≡ word_of test n → false ≡ test n → w ≡ word_of test (n + 1)
  word_out n w is off =
      is ∙ omega arith ∙ ap (λ t. word_of test n + cond t (2 ^ n) 0) off ∙ sym (ap (word_of test) (add-one n))
