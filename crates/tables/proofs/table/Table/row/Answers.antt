use Rattle.std.proofs.Common.{refl}
use Rattle.tables.specs.Holds.{within}
use Rattle.tables.proofs.table.Table.row.Goals as goal

pub returns : goal.returns
unfolding within
returns c = rw c.from.ensures (λ k. refl)
