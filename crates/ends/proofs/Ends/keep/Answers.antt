use Rattle.std.proofs.Common.{refl, rules}
use lib.Bits.{bit_and}
use Rattle.ends.proofs.Sets.{shared, each_both}
use Rattle.ends.proofs.Ends.keep.Goals as goal

pub returns : goal.returns
returns c =
    shared c.loop-w.word-items c.args.self.now.bits c.args.other.now.bits
    (each_both bit_and c.loop-w.word-items c.args.self.now.bits c.args.other.now.bits c.loop-w.w
    (search rules) (search rules) refl c.loop-w.invariant)
