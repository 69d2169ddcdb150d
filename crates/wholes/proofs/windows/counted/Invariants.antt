use Rattle.std.proofs.Common.{◌≡◌, ℕ, ◌+◌, ◌<◌, ◌≤◌, ◌||◌, ltb, leb, Decides}
use Rattle.ends.specs.Member.{member}
use Rattle.wholes.proofs.Counts.{Counted}
use Rattle.wholes.proofs.windows.counted.Given as goal

abbrev pub invariant-loop-a : goal.invariant-loop-a
invariant-loop-a l =
    ((x : ℕ) → Decides (member l.out x) ((x < l.a) × Counted l.rising l.many l.s l.len l.to x))
    × ((k : ℕ) → l.s ≤ k → k < 256 → member l.within k ≡ (leb k (l.s + l.len) || ltb k (l.a + l.len)))
