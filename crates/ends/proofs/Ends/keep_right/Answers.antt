use Rattle.std.proofs.Common.{rules}
use Rattle.ends.proofs.Sets.{kept_right}
use Rattle.ends.proofs.Ends.keep_right.Goals as goal

pub returns : goal.returns
returns c = kept_right c.loop-w.word-items c.args.self.now.bits c.loop-w.w c.args.b (search rules) (search rules) c.loop-w.invariant
