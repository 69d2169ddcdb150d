use Rattle.std.proofs.Common.{◌≡◌, None, get_or, arith, rules}
use Rattle.std.specs.Option.{option_and_then}
use Rattle.wholes.specs.Turns.{at}
use Rattle.wholes.proofs.Placing.{written_none, written_more, reached_then}
use Rattle.wholes.proofs.reach.Reach.advance.Goals as goal

pub loop-from-init : goal.loop-from-init
loop-from-init c = written_none (λ k. at c.args.part.now (at c.args.self.now k))

pub loop-from-preserved : goal.loop-from-preserved
loop-from-preserved c =
    let o : c.and_then.result ≡ option_and_then (λ x. get_or c.args.part.now.ends x None) (get_or c.args.self.now.ends c.loop-from.from None) = search rules in
    let e = reached_then c.args.self.now c.args.part.now c.loop-from.from c.and_then.result o in
    let s = c.args.part.now.small (at c.args.self.now c.loop-from.from) in
    written_more (λ k. at c.args.part.now (at c.args.self.now k)) c.loop-from.end-items c.loop-from.from c.and_then.result
    (search rules) e (omega arith) c.loop-from.invariant
