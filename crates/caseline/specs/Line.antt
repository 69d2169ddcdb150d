-- The case line: its values, and the words of its steps. Assumes nothing.
use Rattle.std.specs.Prelude.{ℕ, List, [], ◌∷◌, ℤ, pos, ◌-ℤ◌}
use Rattle.value.specs.Prices.{price_zero}
use Rattle.alphabet.specs.declared.bounds.Bounds.{Bounds}
use Rattle.alphabet.specs.Carrying.{step_word}
use Rattle.alphabet.specs.CaseAlphabet.{case_bounds}

-- the eleven values, in hundredths
abbrev pub case_values : List ℤ
case_values = pos 0 ∷ pos 0 ∷ pos 2 ∷ pos 17 ∷ pos 35 ∷ pos 50 ∷ pos 45 ∷ pos 43 ∷ pos 15 ∷ pos 3 ∷ pos 0 ∷ []

-- the words of the steps between prices: the rank of a step is the later value minus the earlier
abbrev pub words_of : List Bounds → List ℤ → List ℕ
words_of rows [] = []
words_of rows (x ∷ []) = []
words_of rows (x ∷ (y ∷ vs)) = step_word rows (y -ℤ x) (price_zero x) (price_zero y) ∷ words_of rows (y ∷ vs)

-- the words of the case line's ten steps
unfoldable pub case_words : List ℕ
case_words = words_of case_bounds case_values
