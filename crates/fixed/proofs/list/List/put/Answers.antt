use Rattle.std.proofs.Common.{rules}
use Rattle.std.proofs.Math.Seq.{take-set-lt}
use Rattle.fixed.proofs.list.List.put.Goals as goal

pub returns : goal.returns
returns g c = take-set-lt _ _ _ _ (search rules)
