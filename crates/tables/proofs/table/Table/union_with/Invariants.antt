use Rattle.std.proofs.Common.{◌≡◌, ℕ, cond, ◌||◌, ltb, length}
use Rattle.tables.specs.Holds.{holds, within}
use Rattle.tables.proofs.table.Table.union_with.Given as goal

-- the rows below a are done
abbrev pub invariant-loop-x : goal.invariant-loop-x
invariant-loop-x l =
    (length l.row-items ≡ 256)
    × ((x y : ℕ) → within l.row-items x y ≡ cond (ltb x l.x) (within l.initial.row-items x y || holds l.other x y) (within l.initial.row-items x y))
