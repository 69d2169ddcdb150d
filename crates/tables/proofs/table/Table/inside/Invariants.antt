use Rattle.std.proofs.Common.{◌≡◌, ◌-◌, ◌*◌, ◌≤◌, length}
use Rattle.shape.specs.Ranges.{rows_from}
use Rattle.tables.specs.Holds.{holds}
use Rattle.tables.proofs.table.Table.inside.Given as goal

-- the rows from a to x are counted
abbrev pub invariant-loop-x : goal.invariant-loop-x
invariant-loop-x l = (l.total ≡ length (rows_from (l.x - l.a) l.a l.b (holds l.self))) × (l.total ≤ 256 * (l.x - l.a))
