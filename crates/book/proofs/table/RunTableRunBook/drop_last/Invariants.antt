use Rattle.std.proofs.Common.{◌≡◌, ◌-◌, length}
use Rattle.book.specs.Runs.{Popped}
use Rattle.book.specs.TablesLemmas.{Done}
use Rattle.book.proofs.table.RunTableRunBook.drop_last.Given as goal

abbrev pub invariant-loop-row : goal.invariant-loop-row
invariant-loop-row l = record {
  long : length l.row-items ≡ 32;
  done : Done (λ _. Popped (l.fn.self.size - 1)) l.fn.self.rows l.row-items l.row-index;
}
