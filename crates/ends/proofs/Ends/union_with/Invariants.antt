use Rattle.std.proofs.Common.{◌≡◌, ℕ, cond, ltb, get_or}
use lib.Bits.{bit_or}
use Rattle.ends.proofs.Ends.union_with.Given as goal

-- the numbers below place w are done
abbrev pub invariant-loop-w : goal.invariant-loop-w
invariant-loop-w l =
    (j : ℕ) → get_or l.word-items j 0
    ≡ cond (ltb j l.w) (bit_or (get_or l.initial.word-items j 0) (get_or l.other.bits j 0)) (get_or l.initial.word-items j 0)
