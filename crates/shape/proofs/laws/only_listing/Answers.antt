use Rattle.shape.proofs.Plain.{only_listing}
use Rattle.shape.proofs.laws.only_listing.Goals as goal

pub returns : goal.returns
returns c = only_listing
