-- The list of words that the runs of 32 symbols stand for. Assumes nothing.
use Rattle.std.specs.Prelude.{◌≡◌, ℕ, true, List, [], map, slice_index_or}
use Rattle.std.specs.List.{range_with_len}
use Rattle.word.specs.Words.{word_of}
use Rattle.fixed.specs.Items.{piled}
use Rattle.book.specs.declared.row.Row.{Row}
use Rattle.book.specs.declared.run.Run.{Run}
use Rattle.book.specs.Runs.{carried, formed}

-- the runs that a row holds
abbrev pub row_runs : Row → List Run
row_runs row = piled row.runs

-- the runs of a symbol, which has its own row
abbrev pub runs_of : List Row → ℕ → List Run
runs_of rows symbol = slice_index_or (map row_runs rows) symbol []

-- the runs of every symbol are those of a symbol over n steps
abbrev pub Formed : ℕ → List Row → Type 0
Formed n rows = (symbol : ℕ) → formed n (runs_of rows symbol) ≡ true

-- the word of a step has the symbols that the step carries
unfoldable pub word_at : List Row → ℕ → ℕ
word_at rows step = word_of (λ symbol. carried (runs_of rows symbol) step) 32

-- the words of the first n steps
abbrev pub table_words : List Row → ℕ → List ℕ
table_words rows n = map (word_at rows) (range_with_len 0 n)
