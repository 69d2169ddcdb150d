-- The number of each refusal of a text, and what is returned with it. Assumes nothing.
use Rattle.std.specs.Prelude.{ℕ}
use Rattle.grammar.specs.declared.types.GrammarFault.TheVariants.{Unexpected, Ended, Number, Limit}
use Rattle.parser.specs.declared.fault.ReadFault.{ReadFault}
use Rattle.parser.specs.declared.fault.ReadFault.TheVariants.{Sheet, Long, Word, Grammar}

-- why a text is not read, as a number
abbrev pub read_number : ReadFault → ℕ
read_number Sheet = 6
read_number Long = 1
read_number (Word f) = 2
read_number (Grammar (Unexpected p)) = 3
read_number (Grammar (Ended p)) = 3
read_number (Grammar (Number p)) = 4
read_number (Grammar (Limit p)) = 5

-- what is returned: the records that are needed, the bytes that are allowed, or a place in the text
abbrev pub read_returned : ReadFault → ℕ
read_returned Sheet = 64
read_returned Long = 4096
read_returned (Word f) = f.place
read_returned (Grammar (Unexpected p)) = p
read_returned (Grammar (Ended p)) = p
read_returned (Grammar (Number p)) = p
read_returned (Grammar (Limit p)) = p
