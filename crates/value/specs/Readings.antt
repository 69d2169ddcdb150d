-- Moisture readings, by the model of IEEE 754's arithmetic. Assumes nothing.
use Rattle.std.specs.Prelude.{ℕ, ◌%◌, ◌^◌, Bool, false, cond, ◌&&◌, ℤ, pos, neg_ℤ, nat_lt, to_bits, Float}
use Rattle.std.specs.Float.{fin, binary32}
use Rattle.std.specs.Float.Ieee.{le, eq, sub}

abbrev nothing : Float
nothing = fin false 0 (pos 0)

-- 25 * 2 ^ 2
abbrev hundred : Float
hundred = fin false 25 (pos 2)

-- A reading lies from 0 to 100. Minus zero equals zero, and a NaN is in no order.
abbrev pub reading_range : Float → Bool
reading_range x = le nothing x && le x hundred

-- both zeros are zero
abbrev pub reading_zero : Float → Bool
reading_zero x = eq x nothing

-- the low 31 bits as a whole number, negated if the sign bit is set
abbrev pub bits_rank : ℕ → ℤ
bits_rank bits = cond (nat_lt bits (2 ^ 31)) (pos (bits % 2 ^ 31)) (neg_ℤ (pos (bits % 2 ^ 31)))

-- a step is the later reading minus the earlier, rounded once, and its rank is taken from its bits
abbrev pub reading_rank : Float → Float → ℤ
reading_rank earlier later = bits_rank (to_bits binary32 (sub binary32 later earlier))
