use Rattle.std.proofs.Common.{◌∙◌, ap}
use Rattle.book.specs.Words.{run_from}
use Rattle.book.specs.Longest.{run_counted}
use Rattle.book.proofs.sheet.WordSheetRunBook.run.Goals as goal

pub returns-clause-answer : goal.returns-clause-answer
returns-clause-answer c =
    let symbol = c.args.symbol in
    let step = c.args.step in
    c.run_of.ensures ∙ run_counted c.as_slice.result.now symbol step ∙ ap (λ words. run_from words symbol step) c.as_slice.ensures.items
