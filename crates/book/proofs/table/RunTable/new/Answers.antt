use Rattle.std.proofs.Common.{refl, rules}
use Rattle.book.specs.TablesLemmas.{none_formed}
use Rattle.book.proofs.table.RunTable.new.Goals as goal

pub invariant_of-result : goal.invariant_of-result
invariant_of-result c = record { short = search rules; long = refl; formed = none_formed c.new.result 0 32 c.new.ensures }
