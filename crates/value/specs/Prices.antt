-- Prices: whole numbers of hundredths. Assumes nothing.
use Rattle.std.specs.Prelude.{Bool, false, ◌&&◌, ℤ, pos, negsuc, neg_ℤ, ◌==◌, int_le}

-- a price lies from -1,000,000,000 to 1,000,000,000
abbrev pub price_range : ℤ → Bool
price_range hundredths = int_le (neg_ℤ (pos 1_000_000_000)) hundredths && int_le hundredths (pos 1_000_000_000)

-- no hundredths at all
abbrev pub price_zero : ℤ → Bool
price_zero (pos n) = n == 0
price_zero (negsuc n) = false
