use Rattle.std.proofs.lemmas.List.{length-set}
use Rattle.rules.proofs.Firsts.{stands_first, ends_first}
use Rattle.tidy.proofs.Changing.{ends_inside}
use Rattle.tidy.proofs.Editing.{clear_made}
use Rattle.tidy.proofs.edits.clear.Goals as goal

pub invariant_of-part : goal.invariant_of-part
invariant_of-part c = record { stands = stands_first c.args.sheet.now c.args.i c.requires.stands }

pub cut-requires : goal.cut-requires
cut-requires c =
    let h = ends_inside c.args.sheet.now c.args.i c.end-end.result c.requires.stands (ends_first c.args.sheet.now c.args.i c.end-end.result c.end-end.ensures) in
    record { order = h.0; inside = simp length-set h.1 }

pub returns : goal.returns
returns c = clear_made c.args.sheet.now c.cut.new.sheet c.args.i c.end-end.result (ends_first c.args.sheet.now c.args.i c.end-end.result c.end-end.ensures) c.cut.ensures
