-- When a shape fits a stretch of a line, as seen from a position at its start or left of it. Assumes nothing.
--
-- A line of n steps has the positions 0 to n, and step i goes from i to i + 1; its word tells which symbols
-- it carries. A stretch (a, b) has a ≤ b, and is null where a = b.
use Rattle.std.specs.Prelude.{ℕ, zero, suc, ◌+◌, ◌-◌, Bool, true, false, not, ◌&&◌, ◌||◌, List, [], ◌∷◌, length, ◌==◌, nat_le, slice_index}
use Rattle.word.specs.Words.{has}
use Rattle.query.specs.declared.node.Kind.{Kind}
use Rattle.query.specs.declared.node.Kind.TheVariants.{Symbol, Any, Concat, Exact, Atleast, Atmost, In, Precisely, Noless, Nomore, And, Or, Inorder}
use Rattle.query.specs.Tree.{Query, node, Queries, none, more}
use Rattle.shape.specs.Ranges.{some, inside}

-- which stretches fit: as seen from a position, from a start, to an end
abbrev pub Rule : Type 0
Rule = ℕ → ℕ → ℕ → Bool

-- the rule of the only part
abbrev pub only : List Rule → Rule
only [] s a b = false
only (P ∷ Ps) s a b = P s a b

-- one of the parts fits, seen from s
abbrev pub one_of : List Rule → Rule
one_of [] s a b = false
one_of (P ∷ Ps) s a b = let rest = one_of Ps s a b in P s a b || rest

-- each of the parts fits, seen from s
abbrev pub all_of : List Rule → Rule
all_of [] s a b = true
all_of (P ∷ Ps) s a b = let rest = all_of Ps s a b in P s a b && rest

-- a sequence of one part is that part; of more, there is a c where the first part fits (a, c) seen from s,
-- and the sequence of the others fits (c, b) seen from c
unfoldable pub sequence : List Rule → Rule
sequence [] s a b = false
sequence (P ∷ []) s a b = P s a b
sequence (P ∷ (Q ∷ Ps)) s a b = some a (suc b) (λ c. let rest = sequence (Q ∷ Ps) c c b in P s a c && rest)

-- k occurrences one after another from a to b, none of them null: the first seen from s, each later one from its own start
unfoldable pub chain : Rule → ℕ → Rule
chain P zero s a b = a == b
chain P (suc k) s a b = some (suc a) (suc b) (λ c. let rest = chain P k c c b in P s a c && rest)

-- on a line of n steps: a chain of k occurrences, with no occurrence that ends at a and begins at s or right of it,
-- and none that goes on from b
unfoldable pub exactly : ℕ → Rule → ℕ → Rule
exactly n P k s a b =
    let before = some s a (λ z. P s z a) in
    let after = some (suc b) (suc n) (λ y. P b b y) in
    let alone = not before && not after in
    chain P k s a b && alone

-- exactly j for some j of k or more; a chain from a to b has at most b - a occurrences
unfoldable pub at_least : ℕ → Rule → ℕ → Rule
at_least n P k s a b = some k (suc (b - a)) (λ j. exactly n P j s a b)

-- exactly j for some j of k or less
unfoldable pub at_most : ℕ → Rule → ℕ → Rule
at_most n P k s a b = some 0 (suc k) (λ j. exactly n P j s a b)

-- how many stretches inside (a, b), not null, the part fits, seen from s; they may overlap
unfoldable pub times : Rule → ℕ → ℕ → ℕ → ℕ
times P s a b = length (inside (P s) a b)

-- each part fits a stretch, null or not, seen from s: the first at a or right of it, each at the end of the one before
-- or right of it, the last up to b
unfoldable pub one_after_another : List Rule → Rule
one_after_another [] s a b = nat_le a b
one_after_another (P ∷ Ps) s a b =
    some a (suc b) (λ x. some x (suc b) (λ y. let rest = one_after_another Ps s y b in P s x y && rest))

-- what a whole of a kind with a number fits, from what its parts fit
abbrev pub whole : List ℕ → Kind → ℕ → List Rule → Rule
-- a symbol fits (a, a + 1) where step a carries it
whole words Symbol n Ps s a b = b == suc a && has (slice_index words a) n
-- any fits where one of its parts fits, seen from s; without parts it fits nothing
whole words Any n Ps s a b = one_of Ps s a b
-- concat fits where its parts fit in sequence
whole words Concat n Ps s a b = sequence Ps s a b
-- exact n fits a chain of n occurrences of its part that none comes before or goes on from
whole words Exact n Ps s a b = exactly (length words) (only Ps) n s a b
-- atleast n is exact j for some j of n or more
whole words Atleast n Ps s a b = at_least (length words) (only Ps) n s a b
-- atmost n is exact j for some j of n or less
whole words Atmost n Ps s a b = at_most (length words) (only Ps) n s a b
-- in n fits n steps of which its part holds, seen from s
whole words In n Ps s a b = let rest = only Ps s a b in (b == a + n) && rest
-- precisely n, noless n and nomore n compare n with the number of stretches inside that the part fits, seen from s
whole words Precisely n Ps s a b = times (only Ps) s a b == n
whole words Noless n Ps s a b = nat_le n (times (only Ps) s a b)
whole words Nomore n Ps s a b = nat_le (times (only Ps) s a b) n
-- and needs all of its parts, or one of them
whole words And n Ps s a b = all_of Ps s a b
whole words Or n Ps s a b = one_of Ps s a b
-- inorder places its parts one after another
whole words Inorder n Ps s a b = one_after_another Ps s a b

unfoldable mutual
  -- whether the query fits the stretch (a, b) of the line with these words, seen from s
  pub fits : List ℕ → Query → Rule
  fits words (node k n place len qs) = whole words k n (fits_each words qs)

  pub fits_each : List ℕ → Queries → List Rule
  fits_each words none = []
  fits_each words (more q qs) = fits words q ∷ fits_each words qs
