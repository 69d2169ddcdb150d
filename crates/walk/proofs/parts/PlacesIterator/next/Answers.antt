use Rattle.std.proofs.Common.{arith}
use Rattle.walk.proofs.Row.{some_part, some_others}
use Rattle.walk.proofs.parts.PlacesIterator.next.Goals as goal

pub after-self-requires : goal.after-self-requires
after-self-requires c = some_part c.args.self.now.walk c.args.self.now.count c.in_ok-others.others c.args.self.now.at (omega arith) c.args.self.now.stand

pub invariant_of-self : goal.invariant_of-self
invariant_of-self c = record {
  stand = some_others c.args.self.now.walk c.args.self.now.count c.in_ok-others.others c.args.self.now.at (omega arith) c.args.self.now.stand c.after-self.result c.after-self.ensures;
}
