-- Why each rule of tidying is sound: the query that it makes fits the same stretches. Assumes nothing.
use Rattle.std.specs.Prelude.{◌≡◌, ℕ, ◌<◌, ◌≤◌, true, false, ◌||◌, List, length, ◌==◌}
use Rattle.query.specs.declared.node.Kind.{Kind}
use Rattle.query.specs.declared.node.Kind.TheVariants.{Any, Concat, Exact, Atleast, Atmost}
use Rattle.query.specs.declared.node.Role.TheVariants.{Shape}
use Rattle.query.specs.declared.node.Stage.{Stage}
use Rattle.query.specs.Kinds.{same_kind}
use Rattle.query.specs.Tree.{Query, node, Queries, none, more, count, alike}
use Rattle.query.specs.Rules.{keeps}
use Rattle.shape.specs.Fits.{fits}
use Rattle.rules.specs.Applies.{kind_of, number_of, repeats, unordered, gathers, over_one, empty, merges, stands_alone}
use Rattle.rules.specs.Parts.{join, merged_kind, merged_number, renamed}

-- The two queries fit the same stretches of the line with these words, null ones included, seen from every position.
-- A stretch of a line ends on it: what comes after a repeat is looked for no further than there.
abbrev pub FitAlike : List ℕ → Query → Query → Type 0
FitAlike words q r = (s a b : ℕ) → b ≤ length words → fits words q s a b ≡ fits words r s a b

-- What a part fits is all that a whole sees of it.
abbrev pub PartByPart : Type 0
PartByPart = (words : List ℕ) (k : Kind) (n p l : ℕ) (qs ts : Queries) (q r : Query) → FitAlike words q r →
    FitAlike words (node k n p l (join qs (more q ts))) (node k n p l (join qs (more r ts)))

-- Equal queries fit the same stretches.
abbrev pub EqualFitAlike : Type 0
EqualFitAlike = (words : List ℕ) (q r : Query) → alike q r ≡ true → FitAlike words q r

-- Unnesting: an any in an any, a concat in a concat, an and in an and, an or in an or gives way to its parts.
abbrev pub Unnesting : Type 0
Unnesting = (words : List ℕ) (k : Kind) (n p l m p' l' : ℕ) (qs rs ts : Queries) → gathers k ≡ true → (k ≡ Concat → 0 < count rs) →
    FitAlike words (node k n p l (join qs (more (node k m p' l' rs) ts))) (node k n p l (join qs (join rs ts)))

-- Doubles: in any, and, or, a part equal to an earlier one goes.
abbrev pub Doubles : Type 0
Doubles = (words : List ℕ) (k : Kind) (n p l : ℕ) (qs rs ts : Queries) (q r : Query) → unordered k ≡ true → alike q r ≡ true →
    FitAlike words (node k n p l (join qs (more q (join rs (more r ts))))) (node k n p l (join qs (more q (join rs ts))))

-- Single part: any, concat, and, or with one part become it.
abbrev pub SinglePart : Type 0
SinglePart = (words : List ℕ) (k : Kind) (n p l : ℕ) (q : Query) → gathers k ≡ true → FitAlike words (node k n p l (more q none)) q

-- Dead sequence: a concat with a part `(any)` becomes `(any)`.
abbrev pub DeadSequence : Type 0
DeadSequence = (words : List ℕ) (n p l : ℕ) (qs ts : Queries) (q : Query) → empty q ≡ true →
    FitAlike words (node Concat n p l (join qs (more q ts))) (node Any 0 p l none)

-- Neighbours: in concat, with (M n P) before it, (M m P) goes if it is atmost or m = 0.
abbrev pub NeighbourGoes : Type 0
NeighbourGoes = (words : List ℕ) (n p l : ℕ) (qs ts : Queries) (q r : Query) → over_one q r ≡ true →
    (same_kind (kind_of r) Atmost || number_of r == 0) ≡ true →
    FitAlike words (node Concat n p l (join qs (more q (more r ts)))) (node Concat n p l (join qs (more q ts)))

-- Otherwise the concat becomes `(any)`.
abbrev pub NeighboursDead : Type 0
NeighboursDead = (words : List ℕ) (n p l : ℕ) (qs ts : Queries) (q r : Query) → over_one q r ≡ true →
    (same_kind (kind_of r) Atmost || number_of r == 0) ≡ false →
    FitAlike words (node Concat n p l (join qs (more q (more r ts)))) (node Any 0 p l none)

-- Alternatives: in any, two parts over one P that make one do so in the earlier one's place.
abbrev pub Alternatives : Type 0
Alternatives = (words : List ℕ) (n p l : ℕ) (qs rs ts : Queries) (q r : Query) → over_one q r ≡ true →
    merges (kind_of q) (number_of q) (kind_of r) (number_of r) ≡ true →
    FitAlike words (node Any n p l (join qs (more q (join rs (more r ts)))))
    (node Any n p l
    (join qs (more (renamed q (merged_kind (kind_of q) (kind_of r)) (merged_number (kind_of q) (number_of q) (kind_of r) (number_of r))) (join rs ts))))

-- Nested repeats: exact or atleast n with n ≥ 2 over (M m P) becomes `(any)`.
abbrev pub NestedDead : Type 0
NestedDead = (words : List ℕ) (k : Kind) (n p l : ℕ) (q : Query) → (same_kind k Exact || same_kind k Atleast) ≡ true → 1 < n →
    repeats (kind_of q) ≡ true → FitAlike words (node k n p l (more q none)) (node Any 0 p l none)

-- With n = 1, over exact or atleast m with m ≥ 1 and no `in` in P, it becomes that part.
abbrev pub NestedGoes : Type 0
NestedGoes = (words : List ℕ) (k : Kind) (p l : ℕ) (q : Query) (s : Stage) → (same_kind k Exact || same_kind k Atleast) ≡ true →
    keeps s Shape q ≡ true → stands_alone q ≡ true → FitAlike words (node k 1 p l (more q none)) q
