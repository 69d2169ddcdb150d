use Rattle.std.proofs.Common.{length}
use Rattle.writer.specs.Laying.{open_now}
use Rattle.writer.proofs.Pens.{Shutting}
use Rattle.writer.proofs.Pen.shut.Given as goal

-- the parentheses closed so far
abbrev pub invariant-loop-self : goal.invariant-loop-self
invariant-loop-self l = Shutting l.initial.self l.self

abbrev pub decreases-loop-self : goal.decreases-loop-self
decreases-loop-self l = length (open_now l.self)
