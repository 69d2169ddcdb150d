-- Positions that may be missing. Assumes nothing.
use Rattle.std.specs.Prelude.{ℕ, Option, Some, None}

-- the position, or 256 where there is none
abbrev pub place_of : Option ℕ → ℕ
place_of (Some b) = b
place_of None = 256
