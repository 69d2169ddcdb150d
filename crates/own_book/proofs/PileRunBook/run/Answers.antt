use Rattle.std.proofs.Common.{reverse, length, ◌∙◌, ap}
use Rattle.std.specs.List.{take_while}
use Rattle.word.specs.Words.{has}
use Rattle.book.specs.Words.{run_from}
use Rattle.book.specs.Longest.{run_counted}
use Rattle.own_book.proofs.PileRunBook.run.Goals as goal

pub returns-clause-answer : goal.returns-clause-answer
returns-clause-answer c =
    let symbol = c.args.symbol in
    let step = c.args.step in
    c.run_of.ensures
    ∙ ap (λ words. length (take_while (λ w. has w symbol) words)) c.words_from.ensures
    ∙ run_counted (reverse c.as_slice.result.now) symbol step
    ∙ ap (λ pile. run_from (reverse pile) symbol step) c.as_slice.ensures.items
