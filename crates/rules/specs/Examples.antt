-- Queries to which a rule applies, and queries to which none does. Assumes nothing.
use Rattle.std.specs.Prelude.{◌≡◌, ℕ, Bool, true, false, List, [], ◌∷◌, ◌++◌, map}
use Rattle.query.specs.declared.node.Kind.{Kind}
use Rattle.query.specs.declared.node.Kind.TheVariants.{Symbol, Any, Concat, Exact, Atleast, Atmost, In, Noless, Nomore, And, Or, Inorder}
use Rattle.query.specs.Tree.{Query, node, none, more}
use Rattle.rules.specs.Applies.{applies}

abbrev pub up : Query
up = node Symbol 0 0 0 none

-- its word lies elsewhere in the text
abbrev pub up_again : Query
up_again = node Symbol 0 9 2 none

abbrev pub down : Query
down = node Symbol 1 4 4 none

-- `(any)`, which fits nothing
abbrev pub nothing : Query
nothing = node Any 0 0 0 none

-- a whole of two parts, and of three
abbrev pub two : Kind → Query → Query → Query
two k q r = node k 0 0 0 (more q (more r none))

abbrev pub three : Kind → Query → Query → Query → Query
three k q r t = node k 0 0 0 (more q (more r (more t none)))

-- a whole with a number and one part
abbrev pub over : Kind → ℕ → Query → Query
over k n q = node k n 0 0 (more q none)

-- `(in 3 (noless 1 up))`
abbrev pub window : Query
window = over In 3 (over Noless 1 up)

-- two repeats of one part in an any
abbrev pub either : Kind → ℕ → Kind → ℕ → Query
either k n l m = two Any (over k n up) (over l m up_again)

-- a query, and whether a rule applies to it
abbrev pub Row : Type 0
Row = Query × Bool

-- Unnesting, and a whole in a whole of another kind.
abbrev pub of_unnesting : List Row
of_unnesting =
    (two Any up (two Any down window), true)
    ∷ (two Concat (two Concat up up) down, true)
    ∷ (over In 5 (two And (over Noless 1 up) (two And (over Nomore 2 up) (over Noless 1 down))), true)
    ∷ (over In 5 (two Or (over Noless 1 up) (two Or (over Nomore 2 up) (over Noless 1 down))), true)
    ∷ (two Any up (two Concat down window), false)
    ∷ (over In 5 (two And (over Noless 1 up) (two Or (over Nomore 2 up) (over Noless 1 down))), false)
    ∷ []

-- Doubles, and equal parts where their number or their order counts.
abbrev pub of_doubles : List Row
of_doubles =
    (two Any up up_again, true)
    ∷ (three Any up down up_again, true)
    ∷ (over In 5 (two And (over Noless 1 up) (over Noless 1 up_again)), true)
    ∷ (over In 5 (two Or (over Noless 1 up) (over Noless 1 up_again)), true)
    ∷ (two Concat up up_again, false)
    ∷ (over In 5 (two Inorder up up_again), false)
    ∷ (over In 5 (two And (over Noless 1 up) (over Noless 2 up)), false)
    ∷ []

-- Single part, and wholes that are not that part.
abbrev pub of_single_parts : List Row
of_single_parts =
    (over Any 0 up, true)
    ∷ (over Concat 0 up, true)
    ∷ (over In 5 (over And 0 (over Noless 2 up)), true)
    ∷ (over In 5 (over Or 0 (over Noless 2 up)), true)
    ∷ (over Exact 1 up, false)
    ∷ (over In 5 (over Inorder 0 up), false)
    ∷ (nothing, false)
    ∷ (up, false)
    ∷ []

-- Dead sequence, and what fits nothing where it is no sequence.
abbrev pub of_dead_sequences : List Row
of_dead_sequences =
    (two Concat up nothing, true) ∷ (two Concat nothing up, true) ∷ (over In 5 (two Inorder up nothing), false) ∷ (over Atmost 2 nothing, false) ∷ []

-- Neighbours, and repeats of other parts or further apart.
abbrev pub of_neighbours : List Row
of_neighbours =
    (two Concat (over Exact 1 up) (over Atmost 2 up_again), true)
    ∷ (two Concat (over Atleast 1 up) (over Exact 0 up_again), true)
    ∷ (two Concat (over Atmost 0 up) (over Exact 2 up_again), true)
    ∷ (two Concat (over Exact 1 up) (over Atmost 2 down), false)
    ∷ (three Concat (over Exact 1 up) down (over Atmost 2 up), false)
    ∷ []

-- Alternatives in either order, and those that leave a gap or have other parts.
abbrev pub of_alternatives : List Row
of_alternatives =
    (either Atleast 3 Atleast 2, true)
    ∷ (either Atmost 2 Atmost 3, true)
    ∷ (either Exact 2 Atleast 3, true)
    ∷ (either Atleast 3 Exact 2, true)
    ∷ (either Exact 1 Atleast 3, false)
    ∷ (either Atleast 3 Exact 1, false)
    ∷ (either Exact 3 Atmost 2, true)
    ∷ (either Atmost 2 Exact 3, true)
    ∷ (either Exact 4 Atmost 2, false)
    ∷ (either Atmost 2 Exact 4, false)
    ∷ (either Atmost 2 Atleast 3, true)
    ∷ (either Atleast 3 Atmost 2, true)
    ∷ (either Atmost 2 Atleast 4, false)
    ∷ (either Atleast 4 Atmost 2, false)
    ∷ (either Exact 1 Exact 2, false)
    ∷ (three Any (over Atleast 3 up) down (over Exact 2 up_again), true)
    ∷ (two Any (over Atleast 3 down) (over Exact 2 up), false)
    ∷ []

-- Nested repeats, and those that may be null, that only look nested, or that have a window inside.
abbrev pub of_nested_repeats : List Row
of_nested_repeats =
    (over Exact 2 (over Atmost 1 up), true)
    ∷ (over Atleast 2 (over Exact 0 up), true)
    ∷ (over Exact 2 (over Exact 1 window), true)
    ∷ (over Exact 1 (over Atleast 2 up), true)
    ∷ (over Atleast 1 (over Exact 1 up), true)
    ∷ (over Exact 1 (over Atmost 2 up), false)
    ∷ (over Exact 1 (over Exact 0 up), false)
    ∷ (over Exact 0 (over Exact 2 up), false)
    ∷ (over Atmost 2 (over Exact 2 up), false)
    ∷ (over Exact 1 (over Atleast 2 window), false)
    ∷ (over Exact 1 (over Atleast 2 (two Concat up window)), false)
    ∷ []

abbrev pub rows : List Row
rows = of_unnesting ++ (of_doubles ++ (of_single_parts ++ (of_dead_sequences ++ (of_neighbours ++ (of_alternatives ++ of_nested_repeats)))))

-- The definition says of each row what the row says.
abbrev pub AsTheRowsSay : Type 0
AsTheRowsSay = map (λ (row : Row). applies row.0) rows ≡ map (λ (row : Row). row.1) rows
