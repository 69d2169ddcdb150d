-- How far parts reach that are placed one after another. Assumes nothing.
use Rattle.std.specs.Prelude.{ℕ, ◌<◌, ◌≤◌, None, slice_index_or}
use Rattle.tables.specs.declared.table.Table.{Table}
use Rattle.tables.specs.Holds.{Held}
use Rattle.wholes.specs.Places.{place_of}
use Rattle.wholes.specs.declared.reach.Reach.{Reach}

-- what is reached from a position, or 256 where nothing is
abbrev pub at : Reach → ℕ → ℕ
at r a = place_of (slice_index_or r.ends a None)

-- r is the first end of a stretch of the table that begins at x or right of it, or 256 where there is none
pub record Earliest (t : Table) (x r : ℕ) : Type 0 where
  pub small : r ≤ 256
  pub found : r < 256 → (z : ℕ) × (x ≤ z) × Held t z r
  pub least : (z y : ℕ) → x ≤ z → y < 256 → Held t z y → r ≤ y
