-- A query as a tree, the records that it is written as, and when two queries are equal. Assumes nothing.
use Rattle.std.specs.Prelude.{ℕ, suc, max, Bool, true, false, ◌&&◌, List, [], ◌∷◌, ◌++◌, ◌==◌}
use Rattle.query.specs.declared.node.Kind.{Kind}
use Rattle.query.specs.declared.node.Node.{Node}
use Rattle.query.specs.Kinds.{same_kind}

mutual
  -- a query: its kind, its number, the place and the length of its word, and its parts
  pub data Query : Type 0 where
    node : Kind → ℕ → ℕ → ℕ → Queries → Query

  pub data Queries : Type 0 where
    none : Queries
    more : Query → Queries → Queries

-- how many there are
abbrev pub count : Queries → ℕ
count none = 0
count (more q qs) = suc (count qs)

unfoldable mutual
  -- its records in reading order: its own, then those of each part in turn
  pub records : Query → List Node
  records (node k n p l qs) = record { kind = k; number = n; parts = count qs; place = p; length = l } ∷ records_each qs

  pub records_each : Queries → List Node
  records_each none = []
  records_each (more q qs) = records q ++ records_each qs

unfoldable mutual
  -- how many levels it has, the root being the first
  pub levels : Query → ℕ
  levels (node k n p l qs) = suc (levels_each qs)

  pub levels_each : Queries → ℕ
  levels_each none = 0
  levels_each (more q qs) = max (levels q) (levels_each qs)

unfoldable mutual
  -- two queries are equal when their kinds, numbers and parts are, wherever their words lie
  pub alike : Query → Query → Bool
  alike (node k n p l qs) (node k' n' p' l' qs') = (same_kind k k' && n == n') && alike_each qs qs'

  pub alike_each : Queries → Queries → Bool
  alike_each none none = true
  alike_each none (more r rs) = false
  alike_each (more q qs) none = false
  alike_each (more q qs) (more r rs) = alike q r && alike_each qs rs

unfoldable mutual
  -- the query with the places of its words left out
  pub bare : Query → Query
  bare (node k n p l qs) = node k n 0 0 (bare_each qs)

  pub bare_each : Queries → Queries
  bare_each none = none
  bare_each (more q qs) = more (bare q) (bare_each qs)
