-- The texts of the shapes on the case line. Assumes nothing.
use Rattle.std.specs.Prelude.{ℕ, List, [], ◌∷◌, codes}
use Rattle.alphabet.specs.CaseAlphabet.{case_names}
use Rattle.text.specs.Written.{ReadsBack}
use Rattle.caseline.specs.Cases.{Case, cases, look_alikes}

-- the texts of the table's shapes, in its order
abbrev pub texts : List (List ℕ)
texts =
    codes "stable"
    ∷ codes "(any zero appears)"
    ∷ codes "(exact 2 up)"
    ∷ codes "(atleast 2 up)"
    ∷ codes "(atmost 2 up)"
    ∷ codes "(concat (atleast 2 up) (atmost 1 Down))"
    ∷ codes "(in 5 (and (noless 2 (any up Up)) (nomore 1 (any down Down))))"
    ∷ codes "(in 7 (inorder (atleast 2 (any up Up)) (in 4 (noless 3 (any down Down)))))"
    ∷ []

-- those of the shapes that are easily mistaken
abbrev pub look_alike_texts : List (List ℕ)
look_alike_texts = codes "(concat up (atleast 2 up))" ∷ codes "(concat up up)" ∷ []

-- There is a text for each row, and each, read and bound by the alphabet of the case line, gives the shape of the row at its place.
abbrev pub Give : List (List ℕ) → List Case → Type 0
Give [] [] = Unit {0}
Give [] (x ∷ xs) = ⊥
Give (t ∷ ts) [] = ⊥
Give (t ∷ ts) (x ∷ xs) = ReadsBack case_names x.shape t × Give ts xs

abbrev pub TextsGiveCases : Type 0
TextsGiveCases = Give texts cases

abbrev pub TextsGiveLookAlikes : Type 0
TextsGiveLookAlikes = Give look_alike_texts look_alikes
