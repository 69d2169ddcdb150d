use Rattle.wholes.proofs.Placing.{Written}
use Rattle.wholes.proofs.reach.Reach.start.Given as goal

abbrev pub invariant-loop-a : goal.invariant-loop-a
invariant-loop-a l = Written (λ k. k) l.end-items l.a
