-- The word of a step, one symbol more.
use Rattle.std.proofs.Common.{◌≡◌, ℕ, ◌+◌, ◌*◌, ◌%◌, ◌^◌, ◌<◌, Bool, true, sym, ap, ◌∙◌, arith}
use lib.Bits.{bit_or}
use Rattle.std.proofs.lemmas.Nat.{one_shl, or_comm, or_shifted}
use Rattle.word.specs.Words.{word_of}
use Rattle.word.proofs.Bits.{word_below, word_in}

-- a bit above the word is added to it
pub or_above : (w n : ℕ) → w < 2 ^ n → bit_or w (2 ^ n) ≡ w + 2 ^ n
or_above w n h =
    let one : 1 * 2 ^ n ≡ 2 ^ n = omega arith in
    or_comm w (2 ^ n) ∙ ap (λ b. bit_or b w) (sym one) ∙ or_shifted 1 n w h ∙ omega arith

-- the symbol n passes the test, and its bit is set
pub word_set : (test : ℕ → Bool) (n w : ℕ) → n < 32 → w ≡ word_of test n → true ≡ test n
    → bit_or w ((1 * 2 ^ n) % 2 ^ 32) ≡ word_of test (n + 1)
word_set test n w few is on =
    let below : w < 2 ^ n = rw is (word_below test n) in
    word_in test n w (bit_or w ((1 * 2 ^ n) % 2 ^ 32)) is on (ap (bit_or w) (one_shl n 32 few) ∙ or_above w n below)
