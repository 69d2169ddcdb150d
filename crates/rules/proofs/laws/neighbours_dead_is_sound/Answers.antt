use Rattle.rules.proofs.Sound.{neighbours_dead}
use Rattle.rules.proofs.laws.neighbours_dead_is_sound.Goals as goal

pub returns : goal.returns
returns c = neighbours_dead
