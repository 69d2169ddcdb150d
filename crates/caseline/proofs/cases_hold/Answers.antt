use Rattle.caseline.proofs.Cases.{cases_hold}
use Rattle.caseline.proofs.cases_hold.Goals as goal

pub returns : goal.returns
returns c = cases_hold
