use Rattle.std.proofs.Common.{◌≡◌, length}
use Rattle.shape.specs.Ranges.{rows_from}
use Rattle.tables.specs.Holds.{holds}
use Rattle.matcher.specs.Answers.{Puts}
use Rattle.matcher.proofs.found.Found.write.Given as goal

-- the rows below a are written
abbrev pub invariant-loop-a : goal.invariant-loop-a
invariant-loop-a l =
    Puts l.initial.out l.out (rows_from l.a 0 l.self.n (holds l.self.table)) 0 × (l.place ≡ length (rows_from l.a 0 l.self.n (holds l.self.table)))
