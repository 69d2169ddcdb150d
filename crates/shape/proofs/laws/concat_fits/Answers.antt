use Rattle.shape.proofs.Plain.{concat_fits}
use Rattle.shape.proofs.laws.concat_fits.Goals as goal

pub returns : goal.returns
returns c = concat_fits
