-- Rows of queries, and what is split off them. Assumes nothing.
use Rattle.std.specs.Prelude.{◌≡◌, ℕ, suc, ◌+◌, List, drop, Some, None, Option}
use Rattle.query.specs.declared.node.Node.{Node}
use Rattle.rules.specs.Places.{size_first, places}
use Rattle.tidy.specs.declared.part.Part.{Part}
use Rattle.tidy.specs.declared.part.Row.{Row}

-- where a query lies
abbrev pub place : Part → List Node × ℕ
place p = (p.records.now, p.at)

-- where those of a row lie
abbrev pub places_of : Row → List (List Node × ℕ)
places_of r = places r.count r.records.now r.at

-- the first of a row and the others, or nothing of an empty row
abbrev pub SplitsOff : Row → Option (Part × Row) → Type 0
SplitsOff r None = r.count ≡ 0
SplitsOff r (Some (p, others)) =
    (place p ≡ (r.records.now, r.at)) × (r.count ≡ suc others.count) × (others.records.now ≡ r.records.now)
    × (others.at ≡ r.at + size_first 1 (drop r.at r.records.now))
