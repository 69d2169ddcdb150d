-- What the rules make of two parts of a whole. Assumes nothing.
use Rattle.std.specs.Prelude.{ℕ, min, Bool, false, Some, None, Option, is_some, cond, ◌&&◌, ◌||◌, ◌==◌}
use Rattle.query.specs.declared.node.Kind.{Kind}
use Rattle.query.specs.declared.node.Kind.TheVariants.{Any, Concat, Atmost}
use Rattle.query.specs.Kinds.{same_kind}
use Rattle.query.specs.Tree.{Query, Queries, none, more, alike_each}
use Rattle.rules.specs.Applies.{some_part, kind_of, number_of, parts_of, repeats, unordered, merges}
use Rattle.rules.specs.Parts.{merged_kind, merged_number}
use Rattle.tidy.specs.declared.outcome.Outcome.{Outcome}
use Rattle.tidy.specs.declared.outcome.Outcome.TheVariants.{Joined, Dead}

-- the later one goes, and the earlier one takes this kind and this number
abbrev pub joins_as : Kind → ℕ → Option Outcome
joins_as k n = Some (Joined (record { kind = k; number = n }))

-- with them the whole fits nothing
abbrev pub fits_nothing : Option Outcome
fits_nothing = Some Dead

-- of neighbours the later one goes if it is atmost or its number is 0; otherwise they fit nothing
abbrev pub neighbours_become : Kind → ℕ → Kind → ℕ → Option Outcome
neighbours_become k n l m = cond (same_kind l Atmost || m == 0) (joins_as k n) fits_nothing

-- alternatives become one where they make one
abbrev pub alternatives_become : Kind → ℕ → Kind → ℕ → Option Outcome
alternatives_become k n l m = cond (merges k n l m) (joins_as (merged_kind k l) (merged_number k n l m)) None

-- two repeats of one part
abbrev pub repeats_become : Kind → Kind → ℕ → Kind → ℕ → Option Outcome
repeats_become whole k n l m =
    cond (same_kind whole Concat) (neighbours_become k n l m) (cond (same_kind whole Any) (alternatives_become k n l m) None)

-- two parts of a whole, from their kinds and numbers and whether their own parts are equal
abbrev pub become : Kind → Kind → ℕ → Kind → ℕ → Bool → Option Outcome
become whole k n l m same =
    cond same
    (cond (unordered whole && (same_kind k l && n == m)) (joins_as k n) (cond (repeats k && repeats l) (repeats_become whole k n l m) None))
    None

-- two parts of a whole
abbrev pub of_pair : Kind → Query → Query → Option Outcome
of_pair whole q r = become whole (kind_of q) (number_of q) (kind_of r) (number_of r) (alike_each (parts_of q) (parts_of r))

-- how many of the parts behind one may be joined with it: in a concat only the next
abbrev pub reach : Kind → ℕ → ℕ
reach whole left = cond (same_kind whole Concat) (min left 1) left

-- those parts
abbrev pub first_of : Queries → Queries
first_of none = none
first_of (more q qs) = more q none

abbrev pub within : Kind → Queries → Queries
within whole qs = cond (same_kind whole Concat) (first_of qs) qs

-- a rule speaks of some part and one behind it, in a concat of the next
unfoldable pub some_joined : Kind → Queries → Bool
some_joined whole none = false
some_joined whole (more q qs) = some_part (λ r. is_some (of_pair whole q r)) (within whole qs) || some_joined whole qs
