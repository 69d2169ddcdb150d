use Rattle.wholes.specs.Turns.{at}
use Rattle.wholes.proofs.Placing.{Written}
use Rattle.wholes.proofs.reach.Reach.advance.Given as goal

abbrev pub invariant-loop-from : goal.invariant-loop-from
invariant-loop-from l = Written (λ k. at l.part (at l.self k)) l.end-items l.from
