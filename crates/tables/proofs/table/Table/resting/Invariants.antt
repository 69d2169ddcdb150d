use Rattle.std.proofs.Common.{ℕ, ◌<◌, Decides}
use Rattle.ends.specs.Member.{member}
use Rattle.tables.specs.Holds.{Held}
use Rattle.tables.proofs.table.Table.resting.Given as goal

abbrev pub invariant-loop-b : goal.invariant-loop-b
invariant-loop-b l = (k : ℕ) → Decides (member l.all k) ((k < l.b) × ((y : ℕ) → y < 256 → Held l.self k y → ⊥))
