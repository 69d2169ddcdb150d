use Rattle.std.proofs.Common.{Bool, ◌||◌, get_or, ap, ◌∙◌, ap₂, rules}
use Rattle.ends.specs.Member.{member, nothing}
use Rattle.tables.specs.Holds.{holds, within}
use Rattle.tables.proofs.Grid.{rows_more, rows_all, past}
use Rattle.tables.proofs.table.Table.union_with.Goals as goal

pub loop-x-preserved : goal.loop-x-preserved
unfolding within
loop-x-preserved c = (
  search rules,
  rows_more c.loop-x.row-items c.loop-x.x c.union_with.new.self
      (λ x y. holds c.args.self.now x y || holds c.args.other.now x y) (λ x y. holds c.args.self.now x y)
      (search rules)
      (λ y old. c.union_with.ensures y ∙ ap (λ (u : Bool). u || member (get_or c.args.other.now.rows c.loop-x.x nothing) y) old)
      c.loop-x.invariant.1,
)

pub returns : goal.returns
returns c =
    rows_all c.loop-x.row-items c.loop-x.x (λ x y. holds c.args.self.now x y || holds c.args.other.now x y)
    (λ x y. holds c.args.self.now x y) (search rules)
    (λ x y g. ap₂ (λ (u v : Bool). u || v) (past c.args.self.now.rows x y (search rules)) (past c.args.other.now.rows x y (search rules)))
    c.loop-x.invariant.1
