use Rattle.std.proofs.Common.{◌≡◌, ◌*◌}
use Rattle.ends.specs.Member.{member, tally}
use Rattle.ends.proofs.Ends.len.Given as goal

-- the positions in the numbers so far are counted
abbrev pub invariant-loop-word : goal.invariant-loop-word
invariant-loop-word l = l.total ≡ tally (64 * l.word-index) 0 (member l.self)
