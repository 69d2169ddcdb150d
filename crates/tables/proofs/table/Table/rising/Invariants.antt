use Rattle.std.proofs.Common.{◌≡◌, ℕ, cond, ◌&&◌, ltb, length}
use Rattle.tables.specs.Holds.{within, holds}
use Rattle.tables.proofs.table.Table.rising.Given as goal

-- the rows below a are done
abbrev pub invariant-loop-start : goal.invariant-loop-start
invariant-loop-start l =
    (length l.row-items ≡ 256)
    × ((x y : ℕ) → within l.row-items x y ≡ cond (ltb x l.start) ((ltb x y && ltb y 256) && holds l.self x y) (holds l.self x y))
