use Rattle.tables.proofs.Linking.{StillToCome}
use Rattle.tables.proofs.table.Table.power.Given as goal

abbrev pub invariant-loop-left : goal.invariant-loop-left
invariant-loop-left l = StillToCome l.n l.self l.times l.out l.base l.left

abbrev pub decreases-loop-left : goal.decreases-loop-left
decreases-loop-left l = l.left
