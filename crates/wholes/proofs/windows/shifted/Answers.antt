use Rattle.std.proofs.Common.{sym, rules}
use Rattle.wholes.proofs.windows.shifted.Goals as goal

pub overflow_add-from : goal.overflow_add-from
overflow_add-from c = let u = c.requires c.loop-a.a (sym c.if-contains.ensures) in search rules

pub overflow_cast-from : goal.overflow_cast-from
overflow_cast-from c = let u = c.requires c.loop-a.a (sym c.if-contains.ensures) in search rules
