-- The listing of a shape on a line. Assumes nothing.
use Rattle.std.specs.Prelude.{◌≡◌, ℕ, ◌<◌, ◌≤◌, Bool, true, ◌⊎◌, ◌↔◌, List, [], ◌∷◌, length}
use Rattle.query.specs.Tree.{Query}
use Rattle.shape.specs.declared.stretch.Stretch.{Stretch}
use Rattle.shape.specs.Ranges.{inside}
use Rattle.shape.specs.Fits.{fits}

-- the stretches that a query fits on the line with these words, seen from 0, not null
unfoldable pub listing : List ℕ → Query → List Stretch
listing words q = inside (fits words q 0) 0 (length words)

-- x is one of the list
abbrev pub Among : Stretch → List Stretch → Type 0
Among x [] = ⊥
Among x (y ∷ ys) = (x ≡ y) ⊎ Among x ys

-- no stretch stands twice in the list
abbrev pub Once : List Stretch → Type 0
Once [] = Unit {0}
Once (x ∷ xs) = (Among x xs → ⊥) × Once xs

-- x does not come after y, by start and then by end
abbrev pub NotAfter : Stretch → Stretch → Type 0
NotAfter x y = (x.start < y.start) ⊎ ((x.start ≡ y.start) × (x.end ≤ y.end))

-- each stretch of the list comes by start and then by end
abbrev pub InOrder : List Stretch → Type 0
InOrder [] = Unit {0}
InOrder (x ∷ xs) = ((y : Stretch) → Among y xs → NotAfter x y) × InOrder xs

-- the list has all stretches inside (a, b), not null, that pass the test, and no others; each once; by start and then by end
pub record Lists (test : ℕ → ℕ → Bool) (a b : ℕ) (l : List Stretch) : Type 0 where
  pub exact : (x : Stretch) → Among x l ↔ ((a ≤ x.start) × (x.start < x.end) × (x.end ≤ b) × (test x.start x.end ≡ true))
  pub once : Once l
  pub ordered : InOrder l

-- The listing has these three properties, and no other list has them.
abbrev pub OnlyListing : Type 0
OnlyListing = (words : List ℕ) (q : Query) (l : List Stretch) → Lists (fits words q 0) 0 (length words) l ↔ (l ≡ listing words q)
