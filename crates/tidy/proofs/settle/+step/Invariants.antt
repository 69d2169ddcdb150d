use Rattle.std.proofs.Common.{◌≡◌}
use Rattle.tidy.proofs.Stepping.{Progress}
use Rattle.tidy.proofs.settle.+step.Given as goal

abbrev pub decreases-step : goal.decreases-step
decreases-step l = l.levels

-- nothing has been changed yet
abbrev pub invariant-loop-k : goal.invariant-loop-k
invariant-loop-k l = (l.sheet ≡ l.initial.sheet) × Progress l.levels l.initial.sheet l.i l.k l.next
