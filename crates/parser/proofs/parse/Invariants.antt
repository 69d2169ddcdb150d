use Rattle.std.proofs.Common.{◌≡◌, ◌-◌, length}
use Rattle.words.specs.Words.{stream}
use Rattle.words.specs.Ahead.{ahead}
use Rattle.grammar.specs.Machine.{start}
use Rattle.parser.specs.Parsing.{read_words}
use Rattle.parser.specs.Seen.{seen}
use Rattle.parser.proofs.parse.Given as goal

-- what is ahead, read from where the machine stands, gives what the whole text does
abbrev pub invariant-loop-word : goal.invariant-loop-word
invariant-loop-word l = (l.reader.text.now ≡ l.text) × (read_words (ahead l.reader) (length l.text) (seen l.machine) ≡ read_words (stream 0 l.text) (length l.text) start)

abbrev pub decreases-loop-word : goal.decreases-loop-word
decreases-loop-word l = length l.text - l.reader.at
