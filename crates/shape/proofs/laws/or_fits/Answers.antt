use Rattle.shape.proofs.Plain.{or_fits}
use Rattle.shape.proofs.laws.or_fits.Goals as goal

pub returns : goal.returns
returns c = or_fits
