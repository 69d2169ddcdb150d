use Rattle.std.proofs.Common.{◌≡◌, ℕ, cond, ltb, get_or}
use Rattle.ends.proofs.Sets.{right_of}
use Rattle.ends.proofs.Ends.keep_right.Given as goal

-- the numbers below place w are done
abbrev pub invariant-loop-w : goal.invariant-loop-w
invariant-loop-w l = (j : ℕ) → get_or l.word-items j 0 ≡ cond (ltb j l.w) (right_of (get_or l.initial.word-items j 0) j l.b) (get_or l.initial.word-items j 0)
