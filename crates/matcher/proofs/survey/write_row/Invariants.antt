use Rattle.std.proofs.Common.{◌≡◌, ◌+◌, ◌<◌, ◌^◌, ◌++◌, length, map}
use Rattle.shape.specs.Ranges.{stretch}
use Rattle.ends.specs.Positions.{left}
use Rattle.matcher.specs.Answers.{Puts}
use Rattle.matcher.proofs.survey.write_row.Given as goal

-- the stretches to the positions so far are written
abbrev pub invariant-loop-i : goal.invariant-loop-i
invariant-loop-i l =
    (l.i + length (left l.b-iterator) < 2 ^ 64) × (left l.initial.b-iterator ≡ l.yielded ++ left l.b-iterator) × (length l.yielded ≡ l.i)
    × Puts l.initial.out l.out (map (stretch l.a) l.yielded) l.place
