use Rattle.std.proofs.Common.{◌-◌, sym, ◌∙◌, rules}
use Rattle.fixed.specs.Items.{piled}
use Rattle.book.specs.RunsLemmas.{push_off, push_new}
use Rattle.book.specs.Rows.{on_row, other_row, none_row, roomy_row}
use Rattle.book.proofs.row.Row.push.Goals as goal
use Rattle.book.proofs.row.Row.push.Goals.{in_default-via-in-Some+else-end-from, in_default-via-in_default}

pub returns-then-not-carried : goal.returns-then-not-carried
returns-then-not-carried c = rw c.if-not-carried.true (push_off c.args.step (piled c.args.self.now.runs) c.requires.formed)

pub push-requires : goal.push-requires
push-requires c = (search rules, roomy_row c.args.step (piled c.args.self.now.runs) c.requires.room c.requires.formed)

pub returns-in-Some : goal.returns-in-Some
returns-in-Some c =
    rw (c.if-not-carried.false, c.turn.ensures) (on_row c.args.step c.in-Some.newest (piled c.args.self.now.runs) (search rules) c.requires.formed
    (sym c.end.ensures ∙ c.if-end-from.true ∙ c.from.ensures))

pub returns-in_default : goal.returns-in_default
returns-in_default c =
    let runs = piled c.args.self.now.runs in
    rw (c.if-not-carried.false, c.push.ensures) (push_new c.args.step runs
    (elim c.in_default.branch [
      | in_default-via-in-Some+else-end-from w ↦
          other_row c.args.step w.in-Some.newest runs (search rules) c.requires.formed (λ e. w.if-end-from.false (w.end.ensures ∙ e ∙ sym w.from.ensures))
      | in_default-via-in_default w ↦ none_row (c.args.step - 1) runs (sym c.top.ensures ∙ w.in_default.is)
    ]))
