use Rattle.std.proofs.Common.{◌≡◌, get_or}
use Rattle.word.specs.Words.{word_of}
use Rattle.alphabet.specs.Carrying.{carries, unbounded}
use Rattle.alphabet.specs.Spelling.{bounds_in}
use Rattle.alphabet.proofs.alphabet.Alphabet.word.Given as goal

abbrev pub invariant-loop-j : goal.invariant-loop-j
invariant-loop-j g l = l.word ≡ word_of (λ j. carries (get_or (bounds_in l.symbols) j unbounded) l.rank l.first_zero l.last_zero) l.j
