use Rattle.shape.proofs.Plain.{exact_fits}
use Rattle.shape.proofs.laws.exact_fits.Goals as goal

pub returns : goal.returns
returns c = exact_fits
