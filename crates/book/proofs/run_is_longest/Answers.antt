use Rattle.book.specs.Longest.{longest}
use Rattle.book.proofs.run_is_longest.Goals as goal

pub returns : goal.returns
returns c = longest
