use Rattle.tidy.proofs.Editing.{unnest_made}
use Rattle.tidy.proofs.edits.unnest.Goals as goal

pub returns : goal.returns
returns c = unnest_made c.args.sheet.now c.cut.new.sheet c.args.i c.args.j c.cut.ensures
