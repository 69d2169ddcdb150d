-- Which stretches a table has, and stretches one after another. Assumes nothing.
use Rattle.std.specs.Prelude.{◌≡◌, ℕ, zero, suc, ◌<◌, ◌≤◌, Bool, true, List, slice_index_or}
use Rattle.ends.specs.declared.Ends.{Ends}
use Rattle.ends.specs.Member.{member, nothing}
use Rattle.tables.specs.declared.table.Table.{Table}

-- position b is one of the ends in row a
unfoldable pub within : List Ends → ℕ → ℕ → Bool
within rows a b = member (slice_index_or rows a nothing) b

-- the table has the stretch (a, b)
abbrev pub holds : Table → ℕ → ℕ → Bool
holds t a b = within t.rows a b

abbrev pub Held : Table → ℕ → ℕ → Type 0
Held t a b = holds t a b ≡ true

-- a stretch of R, and from its end one of S
abbrev pub Joined : (ℕ → ℕ → Type 0) → (ℕ → ℕ → Type 0) → ℕ → ℕ → Type 0
Joined R S a b = (c : ℕ) × R a c × S c b

-- k stretches of R one after another
abbrev pub Links : (ℕ → ℕ → Type 0) → ℕ → ℕ → ℕ → Type 0
Links R zero a b = a ≡ b
Links R (suc k) a b = Joined R (Links R k) a b

-- no stretch of the table is null, and none ends right of n
abbrev pub Rising : Table → ℕ → Type 0
Rising t n = (x y : ℕ) → Held t x y → (x < y) × (y ≤ n)
