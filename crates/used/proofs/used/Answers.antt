use Rattle.std.proofs.Common.{◌≡◌, ap, ◌∙◌, rules}
use Rattle.std.proofs.iter.runs.Made.{chains}
use Rattle.word.specs.Words.{has}
use Rattle.used.proofs.Seeing.{gathered, gathered_all}
use Rattle.used.proofs.used.Goals as goal

pub returns : goal.returns
returns c = λ j l. let e : c.fold.result ≡ gathered 0 c.args.records.now = search (rules, chains) in ap (λ w. has w j) e ∙ gathered_all c.args.records.now j l
