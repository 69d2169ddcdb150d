use Rattle.tidy.proofs.Stepping.{Settling, size_now}
use Rattle.tidy.proofs.settle.settle.Given as goal

abbrev pub invariant-loop-end : goal.invariant-loop-end
invariant-loop-end l = Settling l.initial.sheet l.sheet

abbrev pub decreases-loop-end : goal.decreases-loop-end
decreases-loop-end l = size_now l.sheet
