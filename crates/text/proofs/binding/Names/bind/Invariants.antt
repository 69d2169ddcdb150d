use Rattle.std.proofs.Common.{◌≡◌}
use Rattle.alphabet.specs.Symbols.{names_of}
use Rattle.text.specs.Binding.{bound_sheet}
use Rattle.text.proofs.binding.Names.bind.Given as goal

-- the records so far are bound, and the others are as they were
abbrev pub invariant-loop-node : goal.invariant-loop-node
invariant-loop-node l = l.node-items ≡ bound_sheet (names_of l.self.alphabet.now) l.self.text.now l.node-index l.initial.node-items
