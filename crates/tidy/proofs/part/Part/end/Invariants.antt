use Rattle.std.proofs.Common.{◌<◌}
use Rattle.rules.proofs.Firsts.{Ending}
use Rattle.tidy.proofs.part.Part.end.Given as goal

abbrev pub invariant-loop-next : goal.invariant-loop-next
invariant-loop-next l = (0 < l.left) × Ending l.self.records.now l.self.at l.left l.next
