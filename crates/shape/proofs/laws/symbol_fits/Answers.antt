use Rattle.shape.proofs.Plain.{symbol_fits}
use Rattle.shape.proofs.laws.symbol_fits.Goals as goal

pub returns : goal.returns
returns c = symbol_fits
