-- What a run book means, a list of words, and what its calls answer of it. Assumes nothing.
use Rattle.std.specs.Prelude.{◌≡◌, ℕ, suc, ◌+◌, ◌-◌, ◌<◌, ◌≤◌, Bool, true, cond, ◌&&◌, List, [], ◌∷◌, ◌++◌, length, take, drop, nat_lt, slice_index}
use Rattle.word.specs.Words.{has}

-- there is room for a word while fewer than 255 are held
abbrev pub roomy : List ℕ → Bool
roomy words = nat_lt (length words) 255

-- the list with a word put at its end, if there is room
abbrev pub added : List ℕ → ℕ → List ℕ
added words word = cond (roomy words) (words ++ word ∷ []) words

-- there is a word to take off
abbrev pub droppable : List ℕ → Bool
droppable words = nat_lt 0 (length words)

-- the list without its last word
abbrev pub dropped : List ℕ → List ℕ
dropped words = take (length words - 1) words

-- there is a word for the step, and it has the symbol
abbrev pub marked : List ℕ → ℕ → ℕ → Bool
marked words symbol step = nat_lt step (length words) && has (slice_index words step) symbol

-- how many words at the front, one after another, have the symbol
unfoldable pub run_front : List ℕ → ℕ → ℕ
run_front [] symbol = 0
run_front (word ∷ words) symbol = cond (has word symbol) (suc (run_front words symbol)) 0

-- how many words from the step on, one after another, have the symbol
abbrev pub run_from : List ℕ → ℕ → ℕ → ℕ
run_from words symbol step = run_front (drop step words) symbol

-- there are words for the k steps from the given step on, and all have the symbol
abbrev pub AllMarked : List ℕ → ℕ → ℕ → ℕ → Type 0
AllMarked words symbol step k = (i : ℕ) → i < k → marked words symbol (step + i) ≡ true

-- so many have it, and never more: a run is the longest
abbrev pub RunLongest : Type 0
RunLongest =
    (words : List ℕ) (symbol step : ℕ) → AllMarked words symbol step (run_from words symbol step)
    × ((k : ℕ) → AllMarked words symbol step k → k ≤ run_from words symbol step)
