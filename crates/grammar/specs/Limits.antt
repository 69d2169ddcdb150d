-- The limits on numbers, on the count of records and on levels, told from the words before. Assumes nothing.
use Rattle.std.specs.Prelude.{ℕ, suc, pred, ◌+◌, Bool, true, false, cond, not, ◌&&◌, List, [], ◌∷◌, ◌==◌, nat_le, nat_lt}
use Rattle.query.specs.declared.node.Kind.{Kind}
use Rattle.query.specs.Kinds.{kind_number}
use Rattle.words.specs.Words.{Lexeme, name, number, opens, closes}
use Rattle.grammar.specs.Names.{small, natural}
use Rattle.grammar.specs.Spelling.{Said, lparen, rparen, counts, names, Placed, said_by, is_symbol}

-- what is counted over words: how many are names, each the word of one record; how many parentheses are open; and whether the last word is `in`
pub record Tally : Type 0 where
  pub named : ℕ
  pub open_now : ℕ
  pub after_in : Bool

abbrev pub nothing : Tally
nothing = record { named = 0; open_now = 0; after_in = false }

abbrev pub is_in : Kind → Bool
is_in k = kind_number k == 6

-- one word more
abbrev pub note : Tally → Said → Tally
note t lparen = record { named = t.named; open_now = suc t.open_now; after_in = false }
note t rparen = record { named = t.named; open_now = pred t.open_now; after_in = false }
note t (counts n) = record { named = t.named; open_now = t.open_now; after_in = false }
note t (names k p l) = record { named = suc t.named; open_now = t.open_now; after_in = is_in k }

-- words more
abbrev pub note_all : Tally → List Said → Tally
note_all t [] = t
note_all t (w ∷ ws) = note_all (note t w) ws

abbrev pub tally : List Said → Tally
tally ws = note_all nothing ws

-- the level of a name: as many as parentheses are open, the operator's own among them, and for a symbol one more
abbrev pub level_of : Kind → Tally → ℕ
level_of k t = t.open_now + cond (is_symbol k) 1 0

-- a number is small, and not 0 where it is the length of a window; any other word is right
abbrev pub number_fits : Tally → Lexeme → Bool
number_fits t (name bs) = true
number_fits t (number bs) = small bs && not (t.after_in && natural bs == 0)
number_fits t opens = true
number_fits t closes = true

-- a name is at most the 64th, and at most at the 16th level; any other word is right
abbrev pub name_fits : Tally → Said → Bool
name_fits t lparen = true
name_fits t rparen = true
name_fits t (counts n) = true
name_fits t (names k p l) = nat_lt t.named 64 && nat_le (level_of k t) 16

-- a word is within the limits, behind words that were counted
abbrev pub fits : Tally → Placed → Bool
fits t w = number_fits t w.1 && name_fits t (said_by w)

-- each of the words is
abbrev pub all_fit : Tally → List Placed → Bool
all_fit t [] = true
all_fit t (w ∷ ws) = fits t w && all_fit (note t (said_by w)) ws
