use Rattle.rules.proofs.Sound.{unnesting}
use Rattle.rules.proofs.laws.unnesting_is_sound.Goals as goal

pub returns : goal.returns
returns c = unnesting
