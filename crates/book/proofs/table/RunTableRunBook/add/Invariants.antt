use Rattle.std.proofs.Common.{◌≡◌, length}
use Rattle.word.specs.Words.{has}
use Rattle.book.specs.Runs.{Pushed}
use Rattle.book.specs.TablesLemmas.{Done}
use Rattle.book.proofs.table.RunTableRunBook.add.Given as goal

abbrev pub invariant-loop-symbol : goal.invariant-loop-symbol
invariant-loop-symbol l = record {
  long : length l.row-items ≡ 32;
  done : Done (λ j. Pushed l.fn.self.size (has l.word j)) l.fn.self.rows l.row-items l.symbol;
}
