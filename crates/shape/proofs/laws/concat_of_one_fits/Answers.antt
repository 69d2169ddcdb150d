use Rattle.shape.proofs.Plain.{concat_of_one_fits}
use Rattle.shape.proofs.laws.concat_of_one_fits.Goals as goal

pub returns : goal.returns
returns c = concat_of_one_fits
