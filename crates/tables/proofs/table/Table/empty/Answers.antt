use Rattle.tables.proofs.Grid.{same_rows}
use Rattle.tables.proofs.table.Table.empty.Goals as goal

pub returns : goal.returns
returns c = same_rows c.empty.result c.empty.ensures
