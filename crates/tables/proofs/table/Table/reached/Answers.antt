use Rattle.std.proofs.Common.{rules}
use Rattle.ends.specs.Member.{member}
use Rattle.tables.specs.Holds.{within}
use Rattle.tables.proofs.Grid.{rows_gathered, held_row}
use Rattle.tables.proofs.table.Table.reached.Goals as goal

pub loop-row-preserved : goal.loop-row-preserved
unfolding within
loop-row-preserved c =
    rows_gathered (member c.loop-row.all) c.args.self.now (member c.loop-row.all) (member c.union_with.new.self) c.loop-row.row-index
    c.union_with.ensures c.loop-row.invariant

pub returns : goal.returns
returns c = λ b. (
  λ u. (let r = (c.loop-row.invariant b).0 u in (r.0, r.2)),
  λ h. (c.loop-row.invariant b).1 (h.0, (let l = held_row c.args.self.now h.0 b h.1 in search rules), h.1),
)
