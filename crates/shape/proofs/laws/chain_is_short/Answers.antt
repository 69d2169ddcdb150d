use Rattle.shape.proofs.Plain.{chain_is_short}
use Rattle.shape.proofs.laws.chain_is_short.Goals as goal

pub returns : goal.returns
returns c = chain_is_short
