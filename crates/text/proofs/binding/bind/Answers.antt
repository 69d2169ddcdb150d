use Rattle.std.proofs.Common.{◌≡◌, length, take, None, ap, ◌∙◌, rules}
use Rattle.alphabet.specs.Symbols.{names_of}
use Rattle.query.specs.declared.node.Stage.TheVariants.{Bound}
use Rattle.query.specs.Stands.{is_query}
use Rattle.text.specs.Binding.{bind_fault}
use Rattle.text.proofs.Bound.{sheet_query}
use Rattle.text.proofs.binding.bind.Goals as goal

pub returns-clause-bound : goal.returns-clause-bound
returns-clause-bound c = λ e.
    let names = names_of c.args.alphabet.now in
    let sound : None ≡ bind_fault names c.args.text.now c.args.read.records c.args.sheet.now = search rules in
    ap (λ xs. is_query (Bound (length names)) (take c.args.read.records xs)) c.bind.ensures ∙ sheet_query names c.args.text.now c.args.read.records c.args.sheet.now sound
