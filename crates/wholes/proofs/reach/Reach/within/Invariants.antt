use Rattle.std.proofs.Common.{ℕ, ◌+◌, ◌<◌, ◌≤◌, Decides}
use Rattle.ends.specs.Member.{member}
use Rattle.wholes.specs.Turns.{at}
use Rattle.wholes.proofs.reach.Reach.within.Given as goal

abbrev pub invariant-loop-a : goal.invariant-loop-a
invariant-loop-a l = (x : ℕ) → Decides (member l.out x) ((x < l.a) × ((l.s ≤ x) × (x + l.len ≤ l.to) × (at l.self x ≤ x + l.len)))
