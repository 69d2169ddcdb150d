-- Words as names of symbols: which may name one, and where a word stands among names. Assumes nothing.
use Rattle.std.specs.Prelude.{ℕ, ◌+◌, Bool, true, false, cond, not, ◌&&◌, ◌||◌, List, [], ◌∷◌, length, Some, None, codes, Option, nat_le, nat_lt, slice_index_or}
use Rattle.std.specs.Str.{bytes_eq}
use Rattle.alphabet.specs.Every.{every}

-- A to Z, and a to z
abbrev pub is_letter : ℕ → Bool
is_letter b = (nat_le 65 b && nat_le b 90) || (nat_le 97 b && nat_le b 122)

-- whether the word is one of these
abbrev pub is_among : List (List ℕ) → List ℕ → Bool
is_among [] word = false
is_among (x ∷ xs) word = bytes_eq x word || is_among xs word

-- the operator words of the language, which name no symbol
unfoldable pub operator_words : List (List ℕ)
operator_words =
    codes "any" ∷ codes "concat" ∷ codes "exact" ∷ codes "atleast" ∷ codes "atmost" ∷ codes "in"
    ∷ codes "precisely" ∷ codes "noless" ∷ codes "nomore" ∷ codes "and" ∷ codes "or" ∷ codes "inorder" ∷ []

-- a word may name a symbol when it has 1 to 16 bytes, all of them letters, and is no operator word
abbrev pub may_name : List ℕ → Bool
may_name word = (nat_le 1 (length word) && nat_le (length word) 16) && (every is_letter word && not (is_among operator_words word))

-- no word comes twice
abbrev pub all_distinct : List (List ℕ) → Bool
all_distinct [] = true
all_distinct (x ∷ xs) = not (is_among xs x) && all_distinct xs

-- the index of the first name that is the word, the names being counted from k on
abbrev pub index_from : ℕ → List (List ℕ) → List ℕ → Option ℕ
index_from k [] word = None
index_from k (x ∷ xs) word = cond (bytes_eq x word) (Some k) (index_from (k + 1) xs word)

-- the index of a word among names, where it is one of them
abbrev pub index_of : List (List ℕ) → List ℕ → Option ℕ
index_of names word = index_from 0 names word

-- the name at an index, where there is one
abbrev pub name_at : List (List ℕ) → ℕ → Option (List ℕ)
name_at names j = cond (nat_lt j (length names)) (Some (slice_index_or names j [])) None
