use Rattle.std.proofs.Common.{◌+◌, Option, ℕ, subst, rules}
use Rattle.ends.specs.Member.{member}
use Rattle.tables.specs.Holds.{within}
use Rattle.tables.proofs.Grid.{Gathered, ahead, left_ahead, fewer, gathered_none, gathered_more}
use Rattle.tables.proofs.table.Table.after.Goals as goal

pub loop-next-init : goal.loop-next-init
loop-next-init c =
    subst (Gathered (member c.args.starts.now) c.args.self.now (member c.empty-all.result)) (left_ahead (member c.args.starts.now) 0 c.next_from-next.result c.next_from-next.ensures)
    (gathered_none (member c.args.starts.now) c.args.self.now (member c.empty-all.result) c.empty-all.ensures)

pub loop-next-preserved : goal.loop-next-preserved
unfolding within
loop-next-preserved c =
    let next = rw c.from-start.ensures at c.next_from-next-in-Some.ensures in
    subst (Gathered (member c.args.starts.now) c.args.self.now (member c.union_with.new.self))
    (left_ahead (member c.args.starts.now) (c.in-Some.c + 1) c.next_from-next-in-Some.result next)
    (gathered_more (member c.args.starts.now) c.args.self.now (member c.loop-next.all) (member c.union_with.new.self) c.in-Some.c _
    (rw c.from-start.ensures at c.union_with.ensures)
    (subst (λ (o : Option ℕ). Gathered (member c.args.starts.now) c.args.self.now (member c.loop-next.all) (ahead (member c.args.starts.now) o))
    c.in-Some.is c.loop-next.invariant))

pub loop-next-smaller : goal.loop-next-smaller
loop-next-smaller c =
    fewer (member c.args.starts.now) c.in-Some.c c.loop-next.next c.next_from-next-in-Some.result c.in-Some.is (search rules)
    (rw c.from-start.ensures at c.next_from-next-in-Some.ensures)
