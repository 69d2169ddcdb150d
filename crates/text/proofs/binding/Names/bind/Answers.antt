use Rattle.std.proofs.Common.{rules}
use Rattle.std.proofs.lemmas.List.Edits.{map_over_more}
use Rattle.alphabet.specs.Symbols.{names_of}
use Rattle.text.specs.Binding.{bound}
use Rattle.text.proofs.binding.Names.bind.Goals as goal

pub loop-node-preserved : goal.loop-node-preserved
loop-node-preserved c = search (rules, map_over_more (bound (names_of c.args.self.now.alphabet.now) c.args.self.now.text.now))
