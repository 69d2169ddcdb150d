use Rattle.shape.proofs.Plain.{inorder_fits}
use Rattle.shape.proofs.laws.inorder_fits.Goals as goal

pub returns : goal.returns
returns c = inorder_fits
