use Rattle.std.proofs.Common.{ℕ, ◌*◌, ◌^◌, ◌<◌, get_or, refl, rules}
use lib.Count.{ones-le}
use Rattle.ends.specs.Member.{member, tally}
use Rattle.ends.proofs.Sets.{tally_more}
use Rattle.ends.proofs.Tallies.{tally_le}
use Rattle.ends.proofs.Ends.len.Goals as goal

pub loop-word-init : goal.loop-word-init
unfolding tally
loop-word-init c = refl

pub overflow_add-total : goal.overflow_add-total
overflow_add-total c =
    let n : ℕ = get_or c.args.self.now.bits c.loop-word.word-index 0 in
    let f : n < 2 ^ 64 = search rules in
    let o = ones-le 64 n f in
    let t = tally_le (member c.args.self.now) (64 * c.loop-word.word-index) 0 in
    search rules

pub loop-word-preserved : goal.loop-word-preserved
loop-word-preserved c = tally_more c.args.self.now.bits c.loop-word.word-index c.loop-word.total (search rules) c.loop-word.invariant
