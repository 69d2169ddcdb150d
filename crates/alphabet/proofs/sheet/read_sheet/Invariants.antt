use Rattle.fixed.specs.Items.{listed}
use Rattle.alphabet.proofs.Reading.{Read}
use Rattle.alphabet.proofs.sheet.read_sheet.Given as goal

abbrev pub invariant-loop-symbol : goal.invariant-loop-symbol
invariant-loop-symbol l = Read l.sheet l.symbol (listed l.symbols)
