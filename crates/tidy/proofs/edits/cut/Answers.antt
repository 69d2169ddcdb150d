use Rattle.tidy.proofs.Editing.{cut_copied}
use Rattle.tidy.proofs.edits.cut.Goals as goal

pub returns : goal.returns
returns c =
    cut_copied c.args.sheet.now c.copy_within.new.self c.fill.new.self c.args.from c.args.to c.requires.order c.requires.inside
    c.copy_within.ensures.len c.copy_within.ensures.after (c.fill.ensures.after (λ y e. e)) c.blank.ensures
