use Rattle.rules.proofs.Sound.{nested_go}
use Rattle.rules.proofs.laws.nested_goes_is_sound.Goals as goal

pub returns : goal.returns
returns c = nested_go
