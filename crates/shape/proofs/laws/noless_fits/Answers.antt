use Rattle.shape.proofs.Plain.{noless_fits}
use Rattle.shape.proofs.laws.noless_fits.Goals as goal

pub returns : goal.returns
returns c = noless_fits
