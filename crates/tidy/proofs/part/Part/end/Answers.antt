use Rattle.std.proofs.Common.{◌+◌, arith}
use Rattle.rules.proofs.Firsts.{part_inside, ending_more, ending_none, ending_end}
use Rattle.tidy.proofs.part.Part.end.Goals as goal

pub overflow_add-left : goal.overflow_add-left
overflow_add-left c =
    let w = ending_more c.args.self.records.now c.args.self.at c.loop-next.left c.loop-next.next c.loop-next.invariant.0 (omega arith) c.loop-next.invariant.1 in
    let a = w.0 in
    omega arith

pub returns-then-left-eq0 : goal.returns-then-left-eq0
returns-then-left-eq0 c =
    let w = ending_more c.args.self.records.now c.args.self.at c.loop-next.left c.loop-next.next c.loop-next.invariant.0 (omega arith) c.loop-next.invariant.1 in
    ending_none c.args.self.records.now c.args.self.at _ (c.loop-next.next + 1) c.if-left-eq0.true w.1

pub loop-next-preserved : goal.loop-next-preserved
loop-next-preserved c =
    (omega arith, (ending_more c.args.self.records.now c.args.self.at c.loop-next.left c.loop-next.next c.loop-next.invariant.0 (omega arith) c.loop-next.invariant.1).1)

pub returns : goal.returns
returns c =
    let e = ending_end c.args.self.records.now c.args.self.at c.loop-next.left c.loop-next.next (omega arith) c.loop-next.invariant.1 in
    let i = part_inside c.args.self.records.now c.args.self.at c.args.self.stands in
    omega arith
