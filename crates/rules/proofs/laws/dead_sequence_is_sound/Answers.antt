use Rattle.rules.proofs.Sound.{dead_sequence}
use Rattle.rules.proofs.laws.dead_sequence_is_sound.Goals as goal

pub returns : goal.returns
returns c = dead_sequence
