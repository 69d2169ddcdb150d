use Rattle.shape.proofs.Plain.{any_fits}
use Rattle.shape.proofs.laws.any_fits.Goals as goal

pub returns : goal.returns
returns c = any_fits
