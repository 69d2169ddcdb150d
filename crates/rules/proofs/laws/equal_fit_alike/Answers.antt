use Rattle.rules.proofs.Sound.{equal_fit_alike}
use Rattle.rules.proofs.laws.equal_fit_alike.Goals as goal

pub returns : goal.returns
returns c = equal_fit_alike
