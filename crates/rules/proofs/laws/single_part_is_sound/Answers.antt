use Rattle.rules.proofs.Sound.{single_part}
use Rattle.rules.proofs.laws.single_part_is_sound.Goals as goal

pub returns : goal.returns
returns c = single_part
