-- What the reading of a text promises, in the words of the grammar. Assumes nothing.
use Rattle.std.specs.Prelude.{◌≡◌, ℕ, ◌<◌, ◌≤◌, List, [], ◌∷◌, length, Some, None, Ok, Err, Option, Result}
use Rattle.query.specs.declared.node.Node.{Node}
use Rattle.query.specs.Tree.{Query, records}
use Rattle.words.specs.Words.{Stream, ends, bad, word, stream}
use Rattle.grammar.specs.declared.types.GrammarFault.{GrammarFault}
use Rattle.grammar.specs.declared.types.GrammarFault.TheVariants.{Unexpected, Ended, Number, Limit}
use Rattle.grammar.specs.Spelling.{Placed}
use Rattle.grammar.specs.Reading.{Spells, Right, Why}
use Rattle.text.specs.declared.shape.ReadShape.{ReadShape}
use Rattle.parser.specs.declared.fault.ReadFault.{ReadFault}
use Rattle.parser.specs.declared.fault.ReadFault.TheVariants.{Sheet, Long, Word, Grammar}
use Rattle.text.specs.Reading.{padded}

abbrev pub placed : Stream → List Placed
placed ends = []
placed (bad p) = []
placed (word p l s) = (p, l) ∷ placed s

abbrev pub ending : Stream → Option ℕ
ending ends = None
ending (bad p) = Some p
ending (word p l s) = ending s

-- the words of a text, up to its end or to a byte that belongs to no text
abbrev pub words_of : List ℕ → List Placed
words_of text = placed (stream 0 text)

-- the place of the first byte that belongs to no text, where there is one
abbrev pub bad_byte : List ℕ → Option ℕ
bad_byte text = ending (stream 0 text)

-- a text of at most 4,096 bytes that spells a query
pub record StandsFor (q : Query) (text : List ℕ) : Type 0 where
  pub short : length text ≤ 4096
  pub clean : bad_byte text ≡ None
  pub spells : Spells (length text) q (words_of text)

-- a text that is read into a sheet of so many records: there are 64 at least, and the text stands for a query
abbrev pub Readable : List ℕ → ℕ → Type 0
Readable text k = (64 ≤ k) × (q : Query) × StandsFor q text

-- a text was read: the sheet has the records of the query that it stands for, and then blank ones
pub record Accepted (text : List ℕ) (n : ℕ) (before after : List Node) : Type 0 where
  pub room : 64 ≤ length before
  pub query : Query
  pub stands : StandsFor query text
  pub counts : n ≡ length (records query)
  pub holds : after ≡ padded (records query) (length before)

-- a sheet of 64 records at least was blanked
pub record Blanked (before after : List Node) : Type 0 where
  pub room : 64 ≤ length before
  pub blanks : after ≡ padded [] (length before)

-- a text that ends too early has no byte that belongs to no text
abbrev pub Whole : GrammarFault → List ℕ → Type 0
Whole (Unexpected p) text = Unit {0}
Whole (Ended p) text = bad_byte text ≡ None
Whole (Number p) text = Unit {0}
Whole (Limit p) text = Unit {0}

-- why a text was not read, and what became of the sheet
abbrev pub Refused : ReadFault → List ℕ → List Node → List Node → Type 0
Refused Sheet text before after = (length before < 64) × (after ≡ before)
Refused Long text before after = Blanked before after × (4096 < length text)
Refused (Word f) text before after = Blanked before after × (length text ≤ 4096) × (bad_byte text ≡ Some f.place) × Right (words_of text)
Refused (Grammar f) text before after = Blanked before after × (length text ≤ 4096) × Whole f text × Why f (words_of text) (length text)

-- what an answer means of the text and of the sheet before and after
abbrev pub Means : Result ReadShape ReadFault → List ℕ → List Node → List Node → Type 0
Means (Ok s) text before after = Accepted text s.records before after
Means (Err f) text before after = Refused f text before after
