use Rattle.std.proofs.Common.{arith}
use Rattle.std.proofs.lemmas.List.{length-set}
use Rattle.rules.proofs.Firsts.{stands_first, ends_first}
use Rattle.tidy.proofs.Changing.{ends_inside}
use Rattle.tidy.proofs.Editing.{join_made}
use Rattle.tidy.proofs.edits.join.Goals as goal

pub invariant_of-part : goal.invariant_of-part
invariant_of-part c = record { stands = stands_first c.args.sheet.now c.args.y c.requires.later }

pub cut-requires : goal.cut-requires
cut-requires c =
    let h = ends_inside c.args.sheet.now c.args.y c.end-end.result c.requires.later (ends_first c.args.sheet.now c.args.y c.end-end.result c.end-end.ensures) in
    record { order = omega arith; inside = simp length-set h.1 }

pub returns : goal.returns
returns c =
    join_made c.args.sheet.now c.cut.new.sheet c.args.i c.args.x c.args.y c.end-end.result c.args.head
    (ends_first c.args.sheet.now c.args.y c.end-end.result c.end-end.ensures) c.cut.ensures
