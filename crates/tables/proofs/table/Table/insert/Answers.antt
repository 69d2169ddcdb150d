use Rattle.std.proofs.Common.{rules}
use Rattle.tables.proofs.Grid.{put_one}
use Rattle.tables.proofs.table.Table.insert.Goals as goal

pub returns : goal.returns
returns c = rw c.from.ensures (put_one c.args.self.now.rows c.args.a c.args.b c.insert.new.self (search rules) (rw c.from.ensures at c.insert.ensures))
