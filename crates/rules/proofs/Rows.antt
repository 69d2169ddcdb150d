-- The definition says of each row of the table what the row says.
use Rattle.std.proofs.Common.{refl}
use Rattle.query.specs.Tree.{alike}
use Rattle.rules.specs.Applies.{some_part, some_pair, some_next, windowed, applies_here, applies}
use Rattle.rules.specs.Examples.{AsTheRowsSay}

pub as_the_rows_say : AsTheRowsSay
unfolding applies applies_here some_part some_pair some_next alike windowed
as_the_rows_say = refl
