use Rattle.rules.proofs.Sound.{neighbours_go}
use Rattle.rules.proofs.laws.neighbour_goes_is_sound.Goals as goal

pub returns : goal.returns
returns c = neighbours_go
