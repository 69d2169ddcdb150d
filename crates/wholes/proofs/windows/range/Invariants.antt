use Rattle.std.proofs.Common.{ℕ, ◌<◌, ◌≤◌, Decides}
use Rattle.ends.specs.Member.{member}
use Rattle.wholes.proofs.windows.range.Given as goal

abbrev pub invariant-loop-k : goal.invariant-loop-k
invariant-loop-k l = (x : ℕ) → Decides (member l.out x) ((x < l.k) × ((l.low ≤ x) × (x ≤ l.high)))
