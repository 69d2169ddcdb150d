use Rattle.rules.proofs.Sound.{part_by_part}
use Rattle.rules.proofs.laws.part_by_part.Goals as goal

pub returns : goal.returns
returns c = part_by_part
