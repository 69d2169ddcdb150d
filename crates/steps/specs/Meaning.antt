-- What the words of steps mean: a list. Assumes nothing.
use Rattle.std.specs.Prelude.{ℕ, List, [], ◌∷◌, ◌++◌, length, Result, Ok, Err, if◌then◌else◌, nat_lt}
use Rattle.fixed.specs.Items.{listed}
use Rattle.steps.specs.declared.Steps.{Steps}
use Rattle.steps.specs.declared.full.Full.{Full}

-- the list of the words, a step each
unfoldable pub steps_of : Steps → List ℕ
steps_of s = listed s.words

-- whether there is room for a step more, as an answer: at most 255 are held
abbrev pub room_left : List ℕ → Result Unit Full
room_left words = if nat_lt (length words) 255 then Ok tt else Err (record {})

-- the words with one more at the end, if there is room
abbrev pub with_step : List ℕ → ℕ → List ℕ
with_step words word = if nat_lt (length words) 255 then words ++ word ∷ [] else words
