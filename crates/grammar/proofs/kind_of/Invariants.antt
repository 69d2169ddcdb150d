use Rattle.std.proofs.Common.{◌≡◌, drop}
use Rattle.grammar.specs.Names.{operators, named_among, kind_named}
use Rattle.grammar.proofs.kind_of.Given as goal

-- none of the operators so far has this word
abbrev pub invariant-loop-kind : goal.invariant-loop-kind
invariant-loop-kind l = named_among (drop l.kind-index operators) l.name ≡ kind_named l.name
