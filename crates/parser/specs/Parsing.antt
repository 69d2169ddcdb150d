-- What a text is read into, found word by word. Assumes nothing.
use Rattle.std.specs.Prelude.{◌≡◌, ℕ, cond, List, length, Ok, Err, Result, nat_lt}
use Rattle.words.specs.Words.{Stream, ends, bad, word, stream}
use Rattle.grammar.specs.declared.types.GrammarFault.{GrammarFault}
use Rattle.grammar.specs.declared.types.GrammarFault.TheVariants.{Ended}
use Rattle.grammar.specs.Machine.{State, step, start, done}
use Rattle.parser.specs.declared.fault.ReadFault.{ReadFault}
use Rattle.parser.specs.declared.fault.ReadFault.TheVariants.{Long, Word, Grammar}
use Rattle.parser.specs.declared.machine.Machine.{Machine}
use Rattle.parser.specs.Seen.{seen}

abbrev pub go_on : Result State GrammarFault → (State → Result State ReadFault) → Result State ReadFault
go_on (Ok S) next = next S
go_on (Err f) next = Err (Grammar f)

-- the words of a text of so many bytes, read one after another
abbrev pub read_words : Stream → ℕ → State → Result State ReadFault
read_words ends size S = cond (done S) (Ok S) (Err (Grammar (Ended size)))
read_words (bad p) size S = Err (Word (record { place = p }))
read_words (word p l s) size S = go_on (step S (p, l)) (read_words s size)

-- what a text is read into: its records, or why it is refused
abbrev pub parsed : List ℕ → Result State ReadFault
parsed text = cond (nat_lt 4096 (length text)) (Err Long) (read_words (stream 0 text) (length text) start)

-- what the machine has in mind at the end of a text, or why it did not come there
abbrev pub outcome : Result Machine ReadFault → Result State ReadFault
outcome (Ok m) = Ok (seen m)
outcome (Err f) = Err f

-- the machine at the end of a text, or why there is none
abbrev pub Parsed : Result Machine ReadFault → Result State ReadFault → Type 0
Parsed (Ok m) (Ok S) = seen m ≡ S
Parsed (Ok m) (Err f) = ⊥
Parsed (Err g) (Ok S) = ⊥
Parsed (Err g) (Err f) = g ≡ f
