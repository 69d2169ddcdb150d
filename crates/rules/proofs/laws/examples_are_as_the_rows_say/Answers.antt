use Rattle.rules.proofs.Rows.{as_the_rows_say}
use Rattle.rules.proofs.laws.examples_are_as_the_rows_say.Goals as goal

pub returns : goal.returns
returns c = as_the_rows_say
