use Rattle.std.proofs.Common.{◌≡◌, ℕ, ◌<◌, ◌≤◌, List, length, slice_index_or, Bor, Option, Some, None, sym, ap, ◌∙◌, rules}
use Rattle.std.specs.Option.{MatchOption}
use Rattle.book.specs.declared.row.Row.{Row}
use Rattle.book.specs.Runs.{left}
use Rattle.book.specs.Tables.{row_runs, runs_of, table_words}
use Rattle.book.specs.Words.{run_from}
use Rattle.book.specs.TablesLemmas.{row_is, runs_past, run_is_left}
use Rattle.book.proofs.table.RunTable.left.Goals as goal

-- what the row tells, where there is one
told : (rows : List Row) (j t n : ℕ) (found : Option (Bor Row))
    → MatchOption found ((length rows ≤ j) × (n ≡ 0)) (λ row. (j < length rows) × (row.now ≡ slice_index_or rows j row.now) × (n ≡ left (row_runs row.now) t))
    → n ≡ left (runs_of rows j) t
unfolding left
told rows j t n None (past, none) = none ∙ sym (ap (λ runs. left runs t) (runs_past rows j past))
told rows j t n (Some row) (inside, is, here) = here ∙ ap (λ r. left (row_runs r) t) is ∙ ap (λ runs. left runs t) (row_is rows j row.now inside)

pub returns : goal.returns
returns c =
    let b = c.args.self.now in
    let step = c.args.step in
    told b.rows c.from.result step c.map_or.result c.get.result (search rules)
    ∙ run_is_left b.rows b.size b.long b.formed c.from.result step
    ∙ ap (λ j. run_from (table_words b.rows b.size) j step) c.from.ensures
