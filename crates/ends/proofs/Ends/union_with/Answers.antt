use Rattle.std.proofs.Common.{refl, rules}
use lib.Bits.{bit_or}
use Rattle.ends.proofs.Sets.{joined, each_both}
use Rattle.ends.proofs.Ends.union_with.Goals as goal

pub returns : goal.returns
returns c =
    joined c.loop-w.word-items c.args.self.now.bits c.args.other.now.bits
    (each_both bit_or c.loop-w.word-items c.args.self.now.bits c.args.other.now.bits c.loop-w.w
    (search rules) (search rules) refl c.loop-w.invariant)
