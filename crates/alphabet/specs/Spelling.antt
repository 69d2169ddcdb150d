-- What symbols hold: the words that are their names, and their bounds. Assumes nothing.
use Rattle.std.specs.Prelude.{ℕ, List, map}
use Rattle.fixed.specs.Items.{listed}
use Rattle.alphabet.specs.declared.bounds.Bounds.{Bounds}
use Rattle.alphabet.specs.declared.name.Name.{Name}
use Rattle.alphabet.specs.declared.symbol.Symbol.{Symbol}

-- the letters of a name
abbrev pub spelling : Name → List ℕ
spelling name = listed name.letters

-- the letters of each symbol's name
abbrev pub spellings : List Symbol → List (List ℕ)
spellings symbols = map (λ symbol. spelling symbol.name) symbols

-- the bounds of each symbol
abbrev pub bounds_in : List Symbol → List Bounds
bounds_in symbols = map (λ symbol. symbol.bounds) symbols
