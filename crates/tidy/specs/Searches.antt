-- What the searches for parts find. Assumes nothing.
use Rattle.std.specs.Prelude.{◌≡◌, ⊤, ℕ, ◌+◌, Bool, true, false, ◌&&◌, List, length, Some, None, Option, is_some, ◌==◌}
use Rattle.query.specs.declared.node.Kind.{Kind}
use Rattle.query.specs.declared.node.Kind.TheVariants.{Any, Concat}
use Rattle.query.specs.declared.node.Node.{Node}
use Rattle.query.specs.Kinds.{same_kind}
use Rattle.query.specs.Tree.{Query, Queries, none, more, count, records, records_each}
use Rattle.rules.specs.Applies.{kind_of, empty}
use Rattle.rules.specs.Parts.{join}
use Rattle.query.specs.Stands.{at}
use Rattle.rules.specs.Places.{Row, same_inner}
use Rattle.tidy.specs.declared.outcome.Outcome.{Outcome}
use Rattle.tidy.specs.declared.wanted.Wanted.{Wanted}
use Rattle.tidy.specs.declared.wanted.Wanted.TheVariants.{Like, Empty}
use Rattle.tidy.specs.declared.part.Part.{Part}
use Rattle.tidy.specs.Outcomes.{become, of_pair, some_joined}

-- the part is of a kind, or an `(any)` without parts
abbrev pub wants : Wanted → Query → Bool
wants (Like k) q = same_kind k (kind_of q)
wants Empty q = empty q

-- the same from the part's record
abbrev pub wants_record : Wanted → Node → Bool
wants_record (Like k) x = same_kind k x.kind
wants_record Empty x = same_kind x.kind Any && x.parts == 0

-- what becomes of two parts of a whole, from their records where they lie
abbrev pub pair_at : Kind → List Node × ℕ → List Node × ℕ → Option Outcome
pair_at whole (ns, i) (ms, j) = become whole (at ns i).kind (at ns i).number (at ms j).kind (at ms j).number (same_inner ns i ms j)

-- both lie in the records, if there are two
abbrev pub LieBoth : List Node → Option (Part × Part) → Type 0
LieBoth ns None = ⊤
LieBoth ns (Some (x, y)) = (x.records.now ≡ ns) × (y.records.now ≡ ns)

-- where two parts stand that a rule joins, in a concat next to each other; or there are none
abbrev pub PairAt : Kind → ℕ → Queries → Option (ℕ × ℕ) → Type 0
PairAt whole i qs None = some_joined whole qs ≡ false
PairAt whole i qs (Some (x, y)) =
    (xs : Queries) × (q : Query) × (rs : Queries) × (r : Query) × (ts : Queries)
    × (qs ≡ join xs (more q (join rs (more r ts)))) × (is_some (of_pair whole q r) ≡ true)
    × (x ≡ i + length (records_each xs)) × (y ≡ x + length (records q) + length (records_each rs)) × (whole ≡ Concat → rs ≡ none)

abbrev pub Pairs : Kind → List Node → ℕ → ℕ → Option (ℕ × ℕ) → Type 0
Pairs whole ns m i r = (qs : Queries) (rest : List Node) → count qs ≡ m → Row ns i qs rest → PairAt whole i qs r
