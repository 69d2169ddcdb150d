use Rattle.std.proofs.Common.{◌≡◌, ℕ, ◌*◌, ◌<◌, ◌≤◌, false}
use Rattle.ends.specs.Member.{member}
use Rattle.ends.proofs.Ends.next_from.Given as goal

-- no position from b on stands in a number below place w
abbrev pub invariant-loop-w : goal.invariant-loop-w
invariant-loop-w l = (k : ℕ) → l.b ≤ k → k < 64 * l.w → member l.self k ≡ false
