use Rattle.alphabet.specs.Symbols.{names_of}
use Rattle.writer.proofs.Pens.{Laying}
use Rattle.writer.proofs.put_all.Given as goal

-- the records written so far
abbrev pub invariant-loop-node : goal.invariant-loop-node
invariant-loop-node l = Laying (names_of l.alphabet) l.records l.initial.pen l.node-index l.pen
