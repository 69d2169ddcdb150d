-- What the sheet holds after a text was read into it, and what is answered. Assumes nothing.
use Rattle.std.specs.Prelude.{ℕ, ◌-◌, cond, List, [], ◌++◌, length, replicate, Ok, Err, Result, nat_lt}
use Rattle.query.specs.declared.node.Node.{Node}
use Rattle.query.specs.Stands.{blank}
use Rattle.grammar.specs.Machine.{State}
use Rattle.parser.specs.declared.fault.ReadFault.{ReadFault}
use Rattle.parser.specs.declared.fault.ReadFault.TheVariants.{Sheet, Long, Word, Grammar}
use Rattle.parser.specs.Parsing.{parsed}
use Rattle.text.specs.declared.shape.ReadShape.{ReadShape}

-- the records, and blank ones behind them up to so many
abbrev pub padded : List Node → ℕ → List Node
padded xs k = xs ++ replicate (k - length xs) blank

-- what a text is read into where a sheet has so many records
abbrev pub reading : List ℕ → ℕ → Result State ReadFault
reading text k = cond (nat_lt k 64) (Err Sheet) (parsed text)

-- the answer
abbrev pub answered : Result State ReadFault → Result ReadShape ReadFault
answered (Ok S) = Ok (record { records = length S.out })
answered (Err f) = Err f

-- what a refusal leaves in the sheet: a short sheet stays as it is, and any other is blanked
abbrev pub refused_sheet : ReadFault → List Node → List Node
refused_sheet Sheet before = before
refused_sheet Long before = padded [] (length before)
refused_sheet (Word f) before = padded [] (length before)
refused_sheet (Grammar f) before = padded [] (length before)

-- what the sheet holds then
abbrev pub left_in : Result State ReadFault → List Node → List Node
left_in (Ok S) before = padded S.out (length before)
left_in (Err f) before = refused_sheet f before
