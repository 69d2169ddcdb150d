use Rattle.rules.proofs.Sound.{alternatives}
use Rattle.rules.proofs.laws.alternatives_are_sound.Goals as goal

pub returns : goal.returns
returns c = alternatives
