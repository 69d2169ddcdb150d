use Rattle.word.specs.Words.{has}
use Rattle.ends.specs.Member.{member}
use Rattle.ends.proofs.Ends.contains.Goals as goal

pub returns : goal.returns
unfolding member has
returns c = rw c.from.ensures
