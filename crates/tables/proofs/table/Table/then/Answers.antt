use Rattle.std.proofs.Common.{rules}
use Rattle.tables.proofs.Grid.{joined_more, joined_all}
use Rattle.tables.proofs.table.Table.then.Goals as goal

pub loop-a-preserved : goal.loop-a-preserved
loop-a-preserved c = (
  search rules,
  joined_more c.loop-a.row-items c.loop-a.a c.after.result c.args.self.now c.args.later.now (search rules)
      c.after.ensures c.loop-a.invariant.1,
)

pub returns : goal.returns
returns c =
    joined_all c.loop-a.row-items c.loop-a.a c.args.self.now c.args.later.now (search rules) (search rules) c.loop-a.invariant.1
