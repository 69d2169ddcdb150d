use Rattle.std.proofs.Common.{rules}
use Rattle.ends.proofs.Sets.{next_here, none_here, none_more, next_there}
use Rattle.ends.proofs.Ends.next_from.Goals as goal

pub overflow_cast-result-then-rest-ne0 : goal.overflow_cast-result-then-rest-ne0
overflow_cast-result-then-rest-ne0 c =
    let n = next_here c.args.self.now.bits c.args.b (search rules) (search rules) (search rules) in
    let l = n.0 in search rules

pub returns-then-rest-ne0 : goal.returns-then-rest-ne0
returns-then-rest-ne0 c = next_here c.args.self.now.bits c.args.b (search rules) (search rules) (search rules)

pub loop-w-init : goal.loop-w-init
loop-w-init c = none_here c.args.self.now.bits c.args.b (search rules)

pub returns-then-self-w-ne0 : goal.returns-then-self-w-ne0
returns-then-self-w-ne0 c =
    next_there c.args.self.now.bits c.args.b c.loop-w.w (search rules) (search rules) (search rules) (search rules) c.loop-w.invariant

pub loop-w-preserved : goal.loop-w-preserved
loop-w-preserved c = none_more c.args.self.now.bits c.args.b c.loop-w.w (search rules) c.loop-w.invariant
