use Rattle.std.proofs.Common.{◌≡◌, take}
use Rattle.fixed.specs.Items.{listed}
use Rattle.alphabet.proofs.name.Name.of.Given as goal

abbrev pub invariant-loop-letter : goal.invariant-loop-letter
invariant-loop-letter l = listed l.letters ≡ take l.letter-index l.front
