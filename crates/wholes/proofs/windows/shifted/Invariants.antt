use Rattle.std.proofs.Common.{◌≡◌, ℕ, ◌+◌, ◌<◌, true, Decides}
use Rattle.ends.specs.Member.{member}
use Rattle.tables.specs.Holds.{holds}
use Rattle.wholes.proofs.windows.shifted.Given as goal

abbrev pub invariant-loop-a : goal.invariant-loop-a
invariant-loop-a l = (x y : ℕ) → Decides (holds l.out x y) ((x < l.a) × ((member l.starts x ≡ true) × (y ≡ x + l.len)))
