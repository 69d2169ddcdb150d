use Rattle.wholes.proofs.Placing.{written_none}
use Rattle.wholes.proofs.reach.Reach.start.Goals as goal

pub loop-a-init : goal.loop-a-init
loop-a-init c = written_none (λ k. k)
