use Rattle.std.proofs.Common.{subst}
use Rattle.tidy.specs.Edits.{Makeable}
use Rattle.tidy.proofs.Editing.{unnest_room, join_room}
use Rattle.tidy.proofs.edits.make.Goals as goal

pub lift-requires : goal.lift-requires
lift-requires c = record { inside = c.requires.makeable.0 }

pub clear-requires : goal.clear-requires
clear-requires c =
    let m = c.requires.makeable in
    record { stands = (m.0, m.1, m.2, m.4) }

pub unnest-requires : goal.unnest-requires
unnest-requires c =
    let r = unnest_room c.args.sheet.now c.args.i c.in-Unnest.j (subst (Makeable c.args.sheet.now c.args.i) c.in-Unnest.is c.requires.makeable) in
    record { whole = c.requires.makeable.0; inner = r.0; some = r.1; few = r.2 }

pub join-requires : goal.join-requires
join-requires c =
    let r = join_room c.args.sheet.now c.args.i c.in-Join.earlier c.in-Join.later c.in-Join.head
    (subst (Makeable c.args.sheet.now c.args.i) c.in-Join.is c.requires.makeable) in
    record { whole = c.requires.makeable.0; earlier = r.0; later = r.2; some = r.1 }
