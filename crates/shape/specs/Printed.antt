-- A stretch as a text. Assumes nothing.
use Rattle.std.specs.Prelude.{ℕ, List, ◌∷◌, ◌++◌, decimal}
use Rattle.shape.specs.declared.stretch.Stretch.{Stretch}

-- its two positions with a space between them
abbrev pub stretch_text : Stretch → List ℕ
stretch_text x = decimal x.start ++ 32 ∷ decimal x.end
