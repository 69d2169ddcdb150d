-- Parts put together, and what two alternatives become. Assumes nothing.
use Rattle.std.specs.Prelude.{ℕ, min, max, cond, ◌||◌}
use Rattle.query.specs.declared.node.Kind.{Kind}
use Rattle.query.specs.declared.node.Kind.TheVariants.{Atleast, Atmost}
use Rattle.query.specs.Kinds.{same_kind}
use Rattle.query.specs.Tree.{Query, node, Queries, none, more}

-- the parts of one row, then those of another
abbrev pub join : Queries → Queries → Queries
join none rs = rs
join (more q qs) rs = more q (join qs rs)

-- two alternatives are atleast where one of them is, else atmost
abbrev pub merged_kind : Kind → Kind → Kind
merged_kind k l = cond (same_kind k Atleast || same_kind l Atleast) Atleast Atmost

-- atleast and atmost leave no number out; another atleast takes the smaller number, an atmost the larger
abbrev pub merged_number : Kind → ℕ → Kind → ℕ → ℕ
merged_number k n l m =
    cond (same_kind k Atleast || same_kind l Atleast)
    (cond (same_kind k Atmost || same_kind l Atmost) 0 (min n m))
    (max n m)

-- a query with another kind and number
abbrev pub renamed : Query → Kind → ℕ → Query
renamed (node k n p l qs) k' n' = node k' n' p l qs
