-- What a reader has ahead of it, and what a step takes from that. Assumes nothing.
use Rattle.std.specs.Prelude.{◌≡◌, ℕ, ◌+◌, ◌<◌, ◌≤◌, drop, Some, None, Ok, Err, Option, Result}
use Rattle.words.specs.declared.reader.Reader.{Reader}
use Rattle.words.specs.declared.Word.{Word}
use Rattle.words.specs.declared.WordFault.{WordFault}
use Rattle.words.specs.Words.{Stream, stream, ends, bad, word, lexeme, size}

-- the words that a reader has ahead
abbrev pub ahead : Reader → Stream
ahead r = stream r.at (drop r.at r.text.now)

-- an answer takes the first word from what was ahead, and leaves the rest
abbrev pub Takes : Result (Option Word) WordFault → Stream → Stream → Type 0
Takes (Ok None) before after = before ≡ ends
Takes (Ok (Some w)) before after = before ≡ word w.place (lexeme w.token) after
Takes (Err f) before after = before ≡ bad f.place

-- a word that is taken ends where the reader then stands
abbrev pub Stands : Result (Option Word) WordFault → ℕ → ℕ → Type 0
Stands (Ok None) before after = Unit {0}
Stands (Ok (Some w)) before after = (before ≤ w.place) × (w.place < after) × (w.place + size (lexeme w.token) ≡ after)
Stands (Err f) before after = before ≤ f.place

-- where no word is taken, what was ahead stays ahead
abbrev pub Stays : Result (Option Word) WordFault → Stream → Stream → Type 0
Stays (Ok None) before after = after ≡ before
Stays (Ok (Some w)) before after = Unit {0}
Stays (Err f) before after = after ≡ before
