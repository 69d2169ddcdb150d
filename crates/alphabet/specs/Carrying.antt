-- Which symbols of an alphabet a step carries. Assumes nothing.
use Rattle.std.specs.Prelude.{ℕ, Bool, true, not, ◌&&◌, List, length, ℤ, pos, neg_ℤ, int_le, slice_index_or}
use Rattle.word.specs.Words.{word_of}
use Rattle.alphabet.specs.declared.bounds.Asked.{Asked}
use Rattle.alphabet.specs.declared.bounds.Asked.TheVariants.{Anyvalue, Zero, Nonzero}
use Rattle.alphabet.specs.declared.bounds.Bounds.{Bounds}

-- a value that is zero, or that is not, is one that is asked for
abbrev pub answers : Asked → Bool → Bool
answers Anyvalue zero = true
answers Zero zero = zero
answers Nonzero zero = not zero

-- a step carries a symbol when its rank lies within the bounds, both ends counting,
-- and its first and its last value are what is asked for
abbrev pub carries : Bounds → ℤ → Bool → Bool → Bool
carries x rank first last = (int_le x.low rank && int_le rank x.high) && (answers x.first first && answers x.last last)

-- what stands past the end of a list of bounds
abbrev pub unbounded : Bounds
unbounded = record { low = pos 0; high = pos 0; first = Anyvalue; last = Anyvalue }

-- the word of a step: each symbol of the alphabet is tried
abbrev pub step_word : List Bounds → ℤ → Bool → Bool → ℕ
step_word rows rank first last = word_of (λ j. carries (slice_index_or rows j unbounded) rank first last) (length rows)

-- the furthest from 0 that an end of bounds may lie
abbrev pub furthest : ℤ
furthest = pos 1_000_000_000_000

-- the ends of bounds are ordered, and lie within ± the furthest
abbrev pub bounds_right : Bounds → Bool
bounds_right x =
    int_le x.low x.high && (int_le (neg_ℤ furthest) x.low && int_le x.high furthest)
