use Rattle.std.proofs.Common.{◌≡◌, take}
use Rattle.caseline.specs.Line.{case_words}
use Rattle.caseline.proofs.fill.Given as goal

abbrev pub invariant-loop-i : goal.invariant-loop-i
invariant-loop-i g l = g.B.RunBook.words l.book ≡ take l.i case_words
