-- The positions of a set, the lowest first. Assumes nothing.
use Rattle.std.specs.Prelude.{ℕ, ◌-◌, List}
use Rattle.std.specs.List.{filter, range_with_len}
use Rattle.ends.specs.declared.Ends.{Ends}
use Rattle.ends.specs.declared.positions.Positions.{Positions}
use Rattle.ends.specs.Member.{member}

-- the positions of the set
abbrev pub members : Ends → List ℕ
members e = filter (member e) (range_with_len 0 256)

-- those that are still to come
abbrev pub left : Positions → List ℕ
left p = filter (member p.ends.now) (range_with_len p.at (256 - p.at))
