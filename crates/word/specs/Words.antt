-- The word of a step: the set of symbols that the step carries, bit j for symbol j. Assumes nothing.
use Rattle.std.specs.Prelude.{ℕ, zero, suc, ◌+◌, ◌/◌, ◌%◌, ◌^◌, Bool, cond, ◌==◌}

-- whether symbol j is in the word w: its bit j is 1
unfoldable pub has : ℕ → ℕ → Bool
has w j = w / 2 ^ j % 2 == 1

-- the word of those symbols below n that pass the test
abbrev pub word_of : (ℕ → Bool) → ℕ → ℕ
word_of test zero = 0
word_of test (suc n) = word_of test n + cond (test n) (2 ^ n) 0
