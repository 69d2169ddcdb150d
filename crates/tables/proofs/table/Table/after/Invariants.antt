use Rattle.ends.specs.Member.{member}
use Rattle.tables.proofs.Grid.{Gathered, ahead, to_come}
use Rattle.tables.proofs.table.Table.after.Given as goal

-- the rows of the starts so far are gathered
abbrev pub invariant-loop-next : goal.invariant-loop-next
invariant-loop-next l = Gathered (member l.starts) l.self (member l.all) (ahead (member l.starts) l.next)

abbrev pub decreases-loop-next : goal.decreases-loop-next
decreases-loop-next l = to_come l.next
