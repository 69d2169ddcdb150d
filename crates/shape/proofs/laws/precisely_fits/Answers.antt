use Rattle.shape.proofs.Plain.{precisely_fits}
use Rattle.shape.proofs.laws.precisely_fits.Goals as goal

pub returns : goal.returns
returns c = precisely_fits
