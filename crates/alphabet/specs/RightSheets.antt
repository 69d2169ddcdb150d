-- What a right sheet is and what a wrong one is refused for, in plain words. Assumes nothing.
use Rattle.std.specs.Prelude.{◌≡◌, ℕ, ◌+◌, ◌*◌, ◌<◌, ◌≤◌, List, ◌++◌, length, take, drop, replicate, neg_ℤ, ◌≤ℤ◌, Ok, Err, Result, ◌≢◌, slice_index_or}
use Rattle.std.specs.List.{AllByRecursion}
use Rattle.alphabet.specs.Carrying.{furthest}
use Rattle.alphabet.specs.Names.{operator_words}
use Rattle.alphabet.specs.RightAlphabets.{Letter}
use Rattle.alphabet.specs.Sheets.{symbols_said, width_said, name_field, row_field, sheet_name, number_in, load_answer}
use Rattle.alphabet.specs.declared.fault.SheetFault.{SheetFault}
use Rattle.alphabet.specs.declared.fault.SheetFault.TheVariants.{BadLayout, BadName, BadRow}

-- 1 to 32 symbols, names 1 to 16 wide, and behind these two bytes a name and a row of 18 bytes for each symbol
pub record LaidOut (sheet : List ℕ) : Type 0 where
  pub some_symbols : 1 ≤ symbols_said sheet
  pub few_symbols : symbols_said sheet ≤ 32
  pub some_width : 1 ≤ width_said sheet
  pub narrow : width_said sheet ≤ 16
  pub whole : length sheet ≡ 2 + symbols_said sheet * width_said sheet + symbols_said sheet * 18

-- a field holds a word: one or more letters, padded on the right with spaces
pub record Holds (field word : List ℕ) : Type 0 where
  pub letters : AllByRecursion Letter word
  pub some_letters : 1 ≤ length word
  pub padding : ℕ
  pub padded : field ≡ word ++ replicate padding 32

-- a symbol's name stands in its field, is no operator word, and is not the name of an earlier symbol
pub record RightName (sheet : List ℕ) (j : ℕ) : Type 0 where
  pub held : Holds (name_field sheet j) (sheet_name sheet j)
  pub no_operator : AllByRecursion (λ word. word ≢ sheet_name sheet j) operator_words
  pub no_repeat : (i : ℕ) → i < j → sheet_name sheet i ≢ sheet_name sheet j

-- a row has its lowest rank at most its highest, both within ± the furthest, and asks two things that there are
pub record RightRow (row : List ℕ) : Type 0 where
  pub ordered : number_in (take 8 row) ≤ℤ number_in (take 8 (drop 8 row))
  pub low_enough : neg_ℤ furthest ≤ℤ number_in (take 8 row)
  pub high_enough : number_in (take 8 (drop 8 row)) ≤ℤ furthest
  pub asks_first : slice_index_or row 16 0 ≤ 2
  pub asks_last : slice_index_or row 17 0 ≤ 2

-- all is right with the symbols below n
abbrev pub RightBelow : List ℕ → ℕ → Type 0
RightBelow sheet n = (j : ℕ) → j < n → RightName sheet j × RightRow (row_field sheet j)

-- what an answer says of a sheet: a fault names the first symbol with which all is not right, and its name goes before its row
abbrev pub Tells : List ℕ → Result (Unit {0}) SheetFault → Type 0
Tells sheet (Ok _) = LaidOut sheet × RightBelow sheet (symbols_said sheet)
Tells sheet (Err BadLayout) = LaidOut sheet → ⊥
Tells sheet (Err (BadName j)) = LaidOut sheet × (j < symbols_said sheet) × RightBelow sheet j × (RightName sheet j → ⊥)
Tells sheet (Err (BadRow j)) =
    LaidOut sheet × (j < symbols_said sheet) × RightBelow sheet j × RightName sheet j × (RightRow (row_field sheet j) → ⊥)

-- the answer of loading is the one that tells what is so
abbrev pub AnswerTells : Type 0
AnswerTells =
    (sheet : List ℕ) (answer : Result (Unit {0}) SheetFault)
    → (answer ≡ load_answer sheet → Tells sheet answer) × (Tells sheet answer → answer ≡ load_answer sheet)
