-- Words made of their symbols.
use Rattle.std.specs.Prelude.{◌≡◌, ℕ, zero, suc, ◌+◌, ◌*◌, ◌/◌, ◌%◌, ◌^◌, ◌<◌, Bool, cond, ◌==◌, refl}
use Rattle.std.proofs.Common.{sym, ap, ap₂, ◌∙◌, arith, one-add, mod-eq_of_lt}
use Rattle.std.proofs.Math.Nat.{mod-one}
use Rattle.std.proofs.lemmas.Nat.{mod-pow-add}
use Rattle.word.specs.Words.{has, word_of}

-- tests that agree on every symbol make the same word
pub word_of_same : (f g : ℕ → Bool) (n : ℕ) → ((j : ℕ) → j < n → f j ≡ g j) → word_of f n ≡ word_of g n
word_of_same f g zero same = refl
word_of_same f g (suc n) same =
    ap₂ (λ word b. word + cond b (2 ^ n) 0) (word_of_same f g n (λ j h. same j (omega arith))) (same n (omega arith))

digit : (d p : ℕ) → d < 2 → cond (d == 1) p 0 ≡ d * p
digit zero p small = omega arith
digit (suc zero) p small = omega arith
digit (suc (suc d)) p small = absurd (omega arith)

top : (w n : ℕ) → cond (has w n) (2 ^ n) 0 ≡ w / 2 ^ n % 2 * 2 ^ n
unfolding has
top w n = digit (w / 2 ^ n % 2) (2 ^ n) (omega arith)

low : (w n : ℕ) → word_of (has w) n ≡ w % 2 ^ n
low w zero = sym (mod-one w)
low w (suc n) =
    let above = top w n in
    let below = low w n in
    let split : w % 2 ^ (1 + n) ≡ word_of (has w) (suc n) = omega (arith, mod-pow-add w 1 n) in
    sym split ∙ ap (λ k. w % 2 ^ k) (one-add n)

-- a word is made of the symbols that it has
pub word_of_has : (w n : ℕ) → w < 2 ^ n → word_of (has w) n ≡ w
word_of_has w n small = low w n ∙ mod-eq_of_lt small
