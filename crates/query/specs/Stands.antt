-- The query that stands in a list of records, and whether the records are a query, found by going through them. Assumes nothing.
use Rattle.std.specs.Prelude.{ℕ, zero, suc, ◌+◌, Bool, false, cond, ◌&&◌, List, length, Some, None, Option, ◌==◌, nat_le, nat_lt, slice_index_or}
use Rattle.query.specs.declared.node.Kind.TheVariants.{Symbol, Any}
use Rattle.query.specs.declared.node.Node.{Node}
use Rattle.query.specs.declared.node.Role.{Role}
use Rattle.query.specs.declared.node.Role.TheVariants.{Shape}
use Rattle.query.specs.declared.node.Stage.{Stage}
use Rattle.query.specs.Tree.{Query, node, Queries, none, more}
use Rattle.query.specs.Rules.{record_right, part_role}

-- the blank record, all zeros: a symbol 0
abbrev pub blank : Node
blank = record { kind = Symbol; number = 0; parts = 0; place = 0; length = 0 }

-- the record at an index
abbrev pub at : List Node → ℕ → Node
at ns i = slice_index_or ns i blank

-- the index after so many parts, the first at index i, where `next` tells the index after one
abbrev pub skips : (ℕ → ℕ) → ℕ → ℕ → ℕ
skips next zero i = i
skips next (suc k) i = skips next k (next i)

-- the parts themselves
abbrev pub parts_from : (ℕ → Query) → (ℕ → ℕ) → ℕ → ℕ → Queries
parts_from tree next zero i = none
parts_from tree next (suc k) i = more (tree i) (parts_from tree next k (next i))

-- the index after the query that stands at index i, by the levels left
unfoldable pub next_at : ℕ → List Node → ℕ → ℕ
next_at zero ns i = i
next_at (suc d) ns i = skips (next_at d ns) (at ns i).parts (i + 1)

-- the query that stands at index i, by the levels left
unfoldable pub tree_at : ℕ → List Node → ℕ → Query
tree_at zero ns i = node Any 0 0 0 none
tree_at (suc d) ns i =
    node (at ns i).kind (at ns i).number (at ns i).place (at ns i).length
    (parts_from (tree_at d ns) (next_at d ns) (at ns i).parts (i + 1))

-- goes on from an index, where there is one
abbrev pub and_then : Option ℕ → (ℕ → Option ℕ) → Option ℕ
and_then None f = None
and_then (Some i) f = f i

-- the index after so many parts that are all right, where `end` tells the index after one
abbrev pub ends : (ℕ → Option ℕ) → ℕ → ℕ → Option ℕ
ends step zero i = Some i
ends step (suc k) i = and_then (step i) (λ j. ends step k j)

-- the index after a query that stands at index i and keeps the rules in this role, by the levels left
unfoldable pub end_at : Stage → ℕ → List Node → Role → ℕ → Option ℕ
end_at s zero ns r i = None
end_at s (suc d) ns r i =
    cond (nat_lt i (length ns) && record_right s r (at ns i))
    (ends (end_at s d ns (part_role (at ns i).kind)) (at ns i).parts (i + 1)) None

abbrev pub is_at : Option ℕ → ℕ → Bool
is_at None n = false
is_at (Some j) n = j == n

-- at most 64 records, and a query of at most 16 levels takes up all of them
unfoldable pub is_query : Stage → List Node → Bool
is_query s ns = nat_le (length ns) 64 && is_at (end_at s 16 ns Shape 0) (length ns)

-- the query in the records
unfoldable pub query_in : List Node → Query
query_in ns = tree_at 16 ns 0
