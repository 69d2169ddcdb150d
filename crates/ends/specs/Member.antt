-- Which positions are in a set, how many, and which comes next. Assumes nothing.
use Rattle.std.specs.Prelude.{◌≡◌, ℕ, zero, suc, ◌+◌, ◌/◌, ◌%◌, ◌<◌, ◌≤◌, Bool, true, false, cond, [], slice_index, Option, Some, None}
use Rattle.word.specs.Words.{has}
use Rattle.ends.specs.declared.Ends.{Ends}

-- position b is in the set
unfoldable pub member : Ends → ℕ → Bool
member e b = has (slice_index e.bits (b / 64)) (b % 64)

-- what stands past the end of a list of sets
abbrev pub nothing : Ends
nothing = record { bits = [] }

-- how many of the d numbers from x on pass the test
unfoldable pub tally : ℕ → ℕ → (ℕ → Bool) → ℕ
tally zero x test = 0
tally (suc d) x test = cond (test x) 1 0 + tally d (suc x) test

-- r is the lowest position from b on that passes the test, or 256 where none does
pub record Next (test : ℕ → Bool) (b r : ℕ) : Type 0 where
  pub above : b ≤ r
  pub below : r ≤ 256
  pub skipped : (k : ℕ) → b ≤ k → k < r → test k ≡ false
  pub found : r < 256 → test r ≡ true

-- the lowest position from b on that passes the test, or none where none does
abbrev pub Finds : (ℕ → Bool) → ℕ → Option ℕ → Type 0
Finds test b (Some r) = (r < 256) × Next test b r
Finds test b None = (k : ℕ) → b ≤ k → k < 256 → test k ≡ false
