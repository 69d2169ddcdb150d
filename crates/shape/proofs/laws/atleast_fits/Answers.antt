use Rattle.shape.proofs.Plain.{atleast_fits}
use Rattle.shape.proofs.laws.atleast_fits.Goals as goal

pub returns : goal.returns
returns c = atleast_fits
