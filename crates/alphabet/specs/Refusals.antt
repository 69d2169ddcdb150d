-- The refusals of a sheet, each by its number and the value returned with it. Assumes nothing.
use Rattle.std.specs.Prelude.{ℕ}
use Rattle.alphabet.specs.declared.fault.SheetFault.{SheetFault}
use Rattle.alphabet.specs.declared.fault.SheetFault.TheVariants.{BadLayout, BadName, BadRow}

-- a wrong layout is refusal 7, a wrong name 8, a wrong row 9
abbrev pub number : SheetFault → ℕ
number BadLayout = 7
number (BadName symbol) = 8
number (BadRow symbol) = 9

-- 0 is returned with a wrong layout, and else the symbol that is wrong
abbrev pub returned : SheetFault → ℕ
returned BadLayout = 0
returned (BadName symbol) = symbol
returned (BadRow symbol) = symbol
