use Rattle.ends.proofs.Sets.{empty_none}
use Rattle.ends.proofs.Ends.empty.Goals as goal

pub returns : goal.returns
returns c = empty_none
