use Rattle.shape.proofs.Plain.{and_fits}
use Rattle.shape.proofs.laws.and_fits.Goals as goal

pub returns : goal.returns
returns c = and_fits
