-- Looking through a range of positions. Assumes nothing.
use Rattle.std.specs.Prelude.{ℕ, zero, suc, ◌-◌, Bool, true, false, cond, List, [], ◌∷◌, ◌++◌}
use Rattle.shape.specs.declared.stretch.Stretch.{Stretch}

-- whether one of the d numbers from x on passes the test
unfoldable pub some_from : ℕ → ℕ → (ℕ → Bool) → Bool
some_from zero x test = false
some_from (suc d) x test = elim (test x) [ true ↦ true | false ↦ some_from d (suc x) test ]

-- whether some number from a on, and below b, passes the test
abbrev pub some : ℕ → ℕ → (ℕ → Bool) → Bool
some a b test = some_from (b - a) a test

-- the stretch from x to y
abbrev pub stretch : ℕ → ℕ → Stretch
stretch x y = record { start = x; end = y }

-- the stretches that begin at x and end at one of the d positions from y on, where they pass the test
unfoldable pub row_from : ℕ → ℕ → ℕ → (ℕ → ℕ → Bool) → List Stretch
row_from zero x y test = []
row_from (suc d) x y test = let rest = row_from d x (suc y) test in cond (test x y) (stretch x y ∷ rest) rest

-- those that begin at one of the d positions from x on and end at b at the latest
unfoldable pub rows_from : ℕ → ℕ → ℕ → (ℕ → ℕ → Bool) → List Stretch
rows_from zero x b test = []
rows_from (suc d) x b test = row_from (b - x) x (suc x) test ++ rows_from d (suc x) b test

-- the stretches inside (a, b), not null, that pass the test, by start and then by end
abbrev pub inside : (ℕ → ℕ → Bool) → ℕ → ℕ → List Stretch
inside test a b = rows_from (b - a) a b test
