use Rattle.tables.specs.Holds.{within}
use Rattle.tables.proofs.table.Table.next_in.Goals as goal

pub returns : goal.returns
unfolding within
returns c = rw c.from.ensures at c.next_from.ensures
