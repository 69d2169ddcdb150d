use Rattle.shape.proofs.Plain.{in_fits}
use Rattle.shape.proofs.laws.in_fits.Goals as goal

pub returns : goal.returns
returns c = in_fits
