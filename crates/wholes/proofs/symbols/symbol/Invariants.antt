use Rattle.std.proofs.Common.{ℕ, ◌<◌, Decides}
use Rattle.steps.specs.Meaning.{steps_of}
use Rattle.tables.specs.Holds.{holds}
use Rattle.wholes.proofs.Counts.{Carried}
use Rattle.wholes.proofs.symbols.symbol.Given as goal

abbrev pub invariant-loop-a : goal.invariant-loop-a
invariant-loop-a l = (x y : ℕ) → Decides (holds l.out x y) ((x < l.a) × Carried (steps_of l.steps) l.number l.initial.a x y)
