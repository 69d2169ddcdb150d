use Rattle.walk.specs.Walk.{RightFrom}
use Rattle.matcher.specs.Searching.{line}
use Rattle.matcher.proofs.search.Search.survey.Given as goal

abbrev pub invariant-loop-i : goal.invariant-loop-i
invariant-loop-i l = RightFrom l.kept l.self.records.now (line l.self) l.i
