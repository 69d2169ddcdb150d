use Rattle.std.proofs.Common.{◌≡◌, drop}
use Rattle.alphabet.specs.Symbols.{names_of}
use Rattle.text.specs.Binding.{unknown}
use Rattle.text.proofs.binding.Names.check_names.Given as goal

-- no name so far is unknown
abbrev pub invariant-loop-node : goal.invariant-loop-node
invariant-loop-node l = unknown (names_of l.self.alphabet.now) l.self.text.now (drop l.node-index l.records) ≡ unknown (names_of l.self.alphabet.now) l.self.text.now l.records
