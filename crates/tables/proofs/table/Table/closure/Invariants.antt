use Rattle.std.proofs.Common.{◌+◌}
use Rattle.tables.proofs.Linking.{ClosedFrom}
use Rattle.tables.proofs.table.Table.closure.Given as goal

abbrev pub invariant-loop-a : goal.invariant-loop-a
invariant-loop-a l = ClosedFrom l.n l.self l.out (l.a + 1)
