use Rattle.shape.proofs.Plain.{atmost_fits}
use Rattle.shape.proofs.laws.atmost_fits.Goals as goal

pub returns : goal.returns
returns c = atmost_fits
