use Rattle.std.proofs.Common.{◌≡◌, ℕ, ◌<◌, length, Decides}
use Rattle.tables.specs.Holds.{within, Held, Joined}
use Rattle.tables.proofs.table.Table.then.Given as goal

-- the rows below a are made
abbrev pub invariant-loop-a : goal.invariant-loop-a
invariant-loop-a l =
    (length l.row-items ≡ 256) × ((x y : ℕ) → x < l.a → Decides (within l.row-items x y) (Joined (Held l.self) (Held l.later) x y))
