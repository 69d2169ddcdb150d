use Rattle.std.proofs.Common.{◌≡◌, ◌-◌, ◌≤◌}
use Rattle.rules.proofs.Cursor.{Cursor}
use Rattle.tidy.specs.Outcomes.{some_joined}
use Rattle.tidy.proofs.search.find_pair.Given as goal

-- all before the row have been passed
abbrev pub invariant-loop-x : goal.invariant-loop-x
invariant-loop-x l =
    (l.row.records.now ≡ l.parts.records.now) × (l.row.count ≤ l.parts.count)
    × Cursor (some_joined l.whole) l.parts.records.now l.parts.count l.parts.at (l.parts.count - l.row.count) l.row.at

abbrev pub decreases-loop-x : goal.decreases-loop-x
decreases-loop-x l = l.row.count
