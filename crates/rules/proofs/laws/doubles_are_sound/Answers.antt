use Rattle.rules.proofs.Sound.{doubles}
use Rattle.rules.proofs.laws.doubles_are_sound.Goals as goal

pub returns : goal.returns
returns c = doubles
