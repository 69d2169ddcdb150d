-- Whether a rule of tidying applies to a query: all that it asks for stands somewhere in the query. Assumes nothing.
--
-- Below, M is exact, atleast or atmost, and P is one and the same query, wherever its words lie.
use Rattle.std.specs.Prelude.{ℕ, ◌+◌, Bool, false, not, ◌&&◌, ◌||◌, ◌==◌, nat_le, nat_lt}
use Rattle.query.specs.declared.node.Kind.{Kind}
use Rattle.query.specs.declared.node.Kind.TheVariants.{Any, Concat, Exact, Atleast, Atmost, In, And, Or}
use Rattle.query.specs.Kinds.{same_kind}
pub use Rattle.query.specs.Kinds.{repeats}
use Rattle.query.specs.Tree.{Query, node, Queries, none, more, count, alike, alike_each}

-- the kind, the number and the parts of a query
abbrev pub kind_of : Query → Kind
kind_of (node k n p l qs) = k

abbrev pub number_of : Query → ℕ
number_of (node k n p l qs) = n

abbrev pub parts_of : Query → Queries
parts_of (node k n p l qs) = qs

-- any, and, or: the order of the parts says nothing
abbrev pub unordered : Kind → Bool
unordered k = same_kind k Any || (same_kind k And || same_kind k Or)

-- any, concat, and, or
abbrev pub gathers : Kind → Bool
gathers k = same_kind k Concat || unordered k

-- some part passes a test
unfoldable pub some_part : (Query → Bool) → Queries → Bool
some_part test none = false
some_part test (more q qs) = test q || some_part test qs

-- some part passes a test with a part behind it
unfoldable pub some_pair : (Query → Query → Bool) → Queries → Bool
some_pair test none = false
some_pair test (more q qs) = some_part (test q) qs || some_pair test qs

-- some part passes a test with the part next to it
unfoldable pub some_next : (Query → Query → Bool) → Queries → Bool
some_next test none = false
some_next test (more q none) = false
some_next test (more q (more r qs)) = test q r || some_next test (more r qs)

-- (M n P) and (M m P)
abbrev pub over_one : Query → Query → Bool
over_one q r = (repeats (kind_of q) && repeats (kind_of r)) && alike_each (parts_of q) (parts_of r)

-- `(any)`, which has no parts
abbrev pub empty : Query → Bool
empty q = same_kind (kind_of q) Any && count (parts_of q) == 0

-- two repeats of one part that make one, in this order: two atleast; two atmost; exact n and atleast m where n ≥ m - 1;
-- exact n and atmost m where n ≤ m + 1; atmost n and atleast m where m ≤ n + 1
abbrev pub merges_to : Kind → ℕ → Kind → ℕ → Bool
merges_to k n l m =
    (same_kind k Atleast && same_kind l Atleast)
    || ((same_kind k Atmost && same_kind l Atmost)
    || ((same_kind k Exact && (same_kind l Atleast && nat_le m (n + 1)))
    || ((same_kind k Exact && (same_kind l Atmost && nat_le n (m + 1)))
    || (same_kind k Atmost && (same_kind l Atleast && nat_le m (n + 1))))))

-- the same in either order
abbrev pub merges : Kind → ℕ → Kind → ℕ → Bool
merges k n l m = merges_to k n l m || merges_to l m k n

unfoldable mutual
  -- there is an `in` somewhere
  pub windowed : Query → Bool
  windowed (node k n p l qs) = same_kind k In || windowed_each qs

  pub windowed_each : Queries → Bool
  windowed_each none = false
  windowed_each (more q qs) = windowed q || windowed_each qs

-- Unnesting: an any in an any, a concat in a concat, an and in an and, an or in an or.
abbrev pub unnesting : Kind → Queries → Bool
unnesting k qs = gathers k && some_part (λ q. same_kind k (kind_of q)) qs

-- Doubles: in any, and, or, a part that is equal to an earlier part.
abbrev pub doubles : Kind → Queries → Bool
doubles k qs = unordered k && some_pair alike qs

-- Single part: any, concat, and, or with one part.
abbrev pub single_part : Kind → Queries → Bool
single_part k qs = gathers k && count qs == 1

-- Dead sequence: a concat of two or more parts with a part `(any)`.
abbrev pub dead_sequence : Kind → Queries → Bool
dead_sequence k qs = same_kind k Concat && (nat_lt 1 (count qs) && some_part empty qs)

-- Neighbours: in concat, (M n P) with (M m P) next.
abbrev pub neighbours : Kind → Queries → Bool
neighbours k qs = same_kind k Concat && some_next over_one qs

-- Alternatives: in any, two parts (M n P) and (M m P), next to each other or not, that make one.
abbrev pub alternatives : Kind → Queries → Bool
alternatives k qs =
    same_kind k Any
    && some_pair (λ q r. over_one q r && merges (kind_of q) (number_of q) (kind_of r) (number_of r)) qs

-- (exact m P) or (atleast m P) with m ≥ 1 and no `in` in P
abbrev pub stands_alone : Query → Bool
stands_alone q =
    (same_kind (kind_of q) Exact || same_kind (kind_of q) Atleast) && (nat_lt 0 (number_of q) && not (windowed_each (parts_of q)))

-- Nested repeats: exact or atleast n over (M m P), where n ≥ 2; or where n = 1, the inner one is exact or atleast,
-- m ≥ 1 and there is no `in` in P.
abbrev pub nested_repeats : Kind → ℕ → Queries → Bool
nested_repeats k n qs =
    (same_kind k Exact || same_kind k Atleast)
    && some_part (λ q. (nat_lt 1 n && repeats (kind_of q)) || (n == 1 && stands_alone q)) qs

-- a rule applies to a whole of a kind with a number and parts, looking no further than the rule asks
unfoldable pub applies_here : Kind → ℕ → Queries → Bool
applies_here k n qs =
    unnesting k qs || (doubles k qs || (single_part k qs || (dead_sequence k qs || (neighbours k qs || (alternatives k qs || nested_repeats k n qs)))))

unfoldable mutual
  -- a rule applies somewhere in the query
  pub applies : Query → Bool
  applies (node k n p l qs) = applies_here k n qs || applies_in qs

  pub applies_in : Queries → Bool
  applies_in none = false
  applies_in (more q qs) = applies q || applies_in qs
