use Rattle.tidy.proofs.Editing.{lift_made}
use Rattle.tidy.proofs.edits.lift.Goals as goal

pub returns : goal.returns
returns c = lift_made c.args.sheet.now c.cut.new.sheet c.args.i c.cut.ensures
