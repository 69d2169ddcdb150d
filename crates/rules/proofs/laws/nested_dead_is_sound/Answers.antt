use Rattle.rules.proofs.Sound.{nested_dies}
use Rattle.rules.proofs.laws.nested_dead_is_sound.Goals as goal

pub returns : goal.returns
returns c = nested_dies
