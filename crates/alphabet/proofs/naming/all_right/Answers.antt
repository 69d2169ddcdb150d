use Rattle.alphabet.proofs.Keeping.{all_right}
use Rattle.alphabet.proofs.naming.all_right.Goals as goal

pub returns : goal.returns
returns c = all_right
