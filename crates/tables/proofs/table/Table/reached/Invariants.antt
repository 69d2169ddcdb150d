use Rattle.std.proofs.Common.{ℕ, ◌<◌, Decides}
use Rattle.ends.specs.Member.{member}
use Rattle.tables.specs.Holds.{Held}
use Rattle.tables.proofs.table.Table.reached.Given as goal

-- the rows so far are gathered
abbrev pub invariant-loop-row : goal.invariant-loop-row
invariant-loop-row l = (b : ℕ) → Decides (member l.all b) ((x : ℕ) × (x < l.row-index) × Held l.self x b)
