-- Laws of every alphabet. Assumes nothing.
use Rattle.std.specs.Prelude.{◌≡◌, ℕ, List, Some}
use Rattle.alphabet.specs.Names.{index_of, name_at}
use Rattle.alphabet.specs.RightAlphabets.{RightAlphabet}
use Rattle.alphabet.specs.Symbols.{names_of, bounds_of}
use Rattle.alphabet.specs.declared.alphabet.Alphabet.{Alphabet}

-- a word is found at a symbol just where it is the name of that symbol
abbrev pub FoundWhereNamed : Type 0
FoundWhereNamed =
    (a : Alphabet) (word : List ℕ) (j : ℕ)
    → (index_of (names_of a) word ≡ Some j → name_at (names_of a) j ≡ Some word)
    × (name_at (names_of a) j ≡ Some word → index_of (names_of a) word ≡ Some j)

-- every alphabet that exists is right
abbrev pub AllRight : Type 0
AllRight = (a : Alphabet) → RightAlphabet (names_of a) (bounds_of a)
