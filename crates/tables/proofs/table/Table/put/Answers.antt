use Rattle.std.proofs.Common.{rules}
use Rattle.tables.proofs.Grid.{put_row}
use Rattle.tables.proofs.table.Table.put.Goals as goal

pub returns : goal.returns
returns c = rw c.from.ensures (put_row c.args.self.now.rows c.args.a c.args.row (search rules))
