-- What holds of the rank of every step, whatever the kind of value. Assumes nothing.
use Rattle.std.specs.Prelude.{ℤ, pos, neg_ℤ, ◌≤ℤ◌}

-- a rank lies within ±4,000,000,000
abbrev pub Near : ℤ → Type 0
Near rank = (neg_ℤ (pos 4_000_000_000) ≤ℤ rank) × (rank ≤ℤ pos 4_000_000_000)
