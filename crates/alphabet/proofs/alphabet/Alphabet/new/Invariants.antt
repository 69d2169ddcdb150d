use Rattle.std.proofs.Common.{◌≡◌, map, length, take}
use Rattle.fixed.specs.Items.{listed}
use Rattle.alphabet.specs.Spelling.{spellings, bounds_in}
use Rattle.alphabet.proofs.alphabet.Alphabet.new.Given as goal

abbrev pub invariant-loop-name : goal.invariant-loop-name
invariant-loop-name l =
    record {
      count : length (listed l.symbols) ≡ l.name-index;
      names : spellings (listed l.symbols) ≡ map (λ p. take 16 p.0.now) (take l.name-index l.name-items);
      bounds : bounds_in (listed l.symbols) ≡ map (λ p. p.1) (take l.name-index l.name-items);
    }
