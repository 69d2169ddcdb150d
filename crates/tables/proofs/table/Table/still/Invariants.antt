use Rattle.std.proofs.Common.{◌≡◌, ℕ, ◌&&◌, eqb, ltb}
use Rattle.tables.specs.Holds.{holds}
use Rattle.tables.proofs.table.Table.still.Given as goal

-- the null stretches at the positions below a
abbrev pub invariant-loop-a : goal.invariant-loop-a
invariant-loop-a l = (x y : ℕ) → holds l.out x y ≡ (ltb x l.a && eqb x y)
