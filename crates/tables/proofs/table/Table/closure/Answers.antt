use Rattle.std.proofs.Common.{◌≡◌, ◌+◌, ◌-◌, subst, rules}
use Rattle.ends.specs.Member.{member}
use Rattle.tables.specs.Holds.{within}
use Rattle.tables.proofs.Linking.{ClosedFrom, closed_none, closed_more, closed_all}
use Rattle.tables.proofs.table.Table.closure.Goals as goal

pub loop-a-init : goal.loop-a-init
loop-a-init c = closed_none c.args.n c.args.self.now c.empty-out.result c.empty-out.ensures

pub loop-a-preserved : goal.loop-a-preserved
unfolding within
loop-a-preserved c =
    let e : c.loop-a.a ≡ (c.loop-a.a - 1) + 1 = search rules in
    subst (ClosedFrom c.args.n c.args.self.now c.put.new.self) e
    (closed_more c.args.n c.args.self.now c.loop-a.out c.put.new.self c.loop-a.a (member c.after-row.result) (member c.insert.new.self)
    (search rules) c.requires (rw c.from.ensures at c.after-row.ensures) c.insert.ensures c.put.ensures c.loop-a.invariant)

pub returns-2 : goal.returns-2
unfolding within
returns-2 c =
    let z : c.loop-a.a ≡ 0 = search rules in
    closed_all c.args.n c.args.self.now c.put.new.self
    (subst (ClosedFrom c.args.n c.args.self.now c.put.new.self) z
    (closed_more c.args.n c.args.self.now c.loop-a.out c.put.new.self c.loop-a.a (member c.after-row.result) (member c.insert.new.self)
    (search rules) c.requires (rw c.from.ensures at c.after-row.ensures) c.insert.ensures c.put.ensures c.loop-a.invariant))
