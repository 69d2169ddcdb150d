use Rattle.std.proofs.Common.{◌+◌}
use Rattle.ends.specs.Member.{member}
use Rattle.wholes.proofs.Placing.{EndsFrom}
use Rattle.wholes.proofs.reach.Reach.earliest.Given as goal

abbrev pub invariant-loop-x : goal.invariant-loop-x
invariant-loop-x l = EndsFrom l.table (member l.reached) l.ends (l.x + 1)
