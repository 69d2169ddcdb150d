use Rattle.shape.proofs.Plain.{nomore_fits}
use Rattle.shape.proofs.laws.nomore_fits.Goals as goal

pub returns : goal.returns
returns c = nomore_fits
