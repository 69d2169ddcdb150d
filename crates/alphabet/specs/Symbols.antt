-- What an alphabet means: the names and the bounds of its symbols, in order. Assumes nothing.
use Rattle.std.specs.Prelude.{◌≡◌, ℕ, List, Ok, Err, Result}
use Rattle.fixed.specs.Items.{listed}
use Rattle.alphabet.specs.Spelling.{spellings, bounds_in}
use Rattle.alphabet.specs.Sheets.{symbols_said, sheet_names, sheet_rows, load_answer}
use Rattle.alphabet.specs.declared.alphabet.Alphabet.{Alphabet}
use Rattle.alphabet.specs.declared.bounds.Bounds.{Bounds}
use Rattle.alphabet.specs.declared.fault.SheetFault.{SheetFault}

-- the name of each symbol
abbrev pub names_of : Alphabet → List (List ℕ)
names_of a = spellings (listed a.symbols)

-- the bounds of each symbol
abbrev pub bounds_of : Alphabet → List Bounds
bounds_of a = bounds_in (listed a.symbols)

-- a sheet spells an alphabet: the symbols have the names and the bounds that stand in it
abbrev pub Spells : List ℕ → Alphabet → Type 0
Spells sheet a =
    (names_of a ≡ sheet_names sheet (symbols_said sheet)) × (bounds_of a ≡ sheet_rows sheet (symbols_said sheet))

-- reading a sheet gives the alphabet that it spells, or the fault that loading it answers
abbrev pub Reads : List ℕ → Result Alphabet SheetFault → Type 0
Reads sheet (Ok a) = (load_answer sheet ≡ Ok tt) × Spells sheet a
Reads sheet (Err fault) = load_answer sheet ≡ Err fault
