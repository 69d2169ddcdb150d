use Rattle.std.proofs.Common.{rules}
use Rattle.ends.proofs.Sets.{inserted}
use Rattle.ends.proofs.Ends.insert.Goals as goal

pub returns : goal.returns
returns c = rw c.from.ensures (λ k. inserted c.args.self.now.bits c.args.b k (search rules))
