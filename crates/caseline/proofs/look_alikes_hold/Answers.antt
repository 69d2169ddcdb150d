use Rattle.caseline.proofs.Cases.{look_alikes_hold}
use Rattle.caseline.proofs.look_alikes_hold.Goals as goal

pub returns : goal.returns
returns c = look_alikes_hold
