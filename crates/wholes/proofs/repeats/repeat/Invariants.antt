use Rattle.wholes.proofs.Chains.{RepeatsBelow}
use Rattle.wholes.proofs.repeats.repeat.Given as goal

abbrev pub invariant-loop-a : goal.invariant-loop-a
invariant-loop-a l = RepeatsBelow l.initial.a l.to l.first l.reached l.later l.stops l.null l.out l.a
