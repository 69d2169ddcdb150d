use Rattle.std.proofs.Common.{◌+◌, ◌<◌, length, sym, refl, ◌∙◌, ⊎_elim, arith}
use Rattle.words.specs.declared.Class.TheVariants.{Blank, Open, Close, Other}
use Rattle.words.proofs.Rows.{skip_at, end_at, one_at, name_at, number_at, past_row_at}
use Rattle.words.proofs.reader.Reader.next_word.Goals as goal
use Rattle.words.proofs.reader.Reader.next_word.Goals.{in-Letter, in-Digit, in-Open, in-Close}

pub returns-then-place-self-clause-step : goal.returns-then-place-self-clause-step
returns-then-place-self-clause-step c =
    let s = c.take_row.new.self in
    skip_at c.args.self.now.text.now s.text.now c.args.self.now.at s.at c.take_row.ensures.text c.take_row.ensures.at ∙ end_at s.text.now s.at (omega arith)

pub returns-then-place-self-clause-rest : goal.returns-then-place-self-clause-rest
returns-then-place-self-clause-rest c = sym (skip_at _ _ _ _ c.take_row.ensures.text c.take_row.ensures.at)

pub returns-in-Blank-clause-step : goal.returns-in-Blank-clause-step
returns-in-Blank-clause-step c =
    let r = c.args.self.now in
    let s = c.take_row.new.self in
    let blanks = c.take_row.ensures in
    let more : s.at < length s.text.now = omega arith in
    skip_at r.text.now s.text.now r.at s.at blanks.text blanks.at ∙ ⊎_elim
    (λ blank. absurd (past_row_at Blank r.text.now s.text.now r.at s.at blanks.text r.inside blanks.at more (sym c.class_of.ensures ∙ blank)))
    (λ other. one_at Other s.text.now s.text.now s.at (s.at + 1) refl more (sym c.class_of.ensures ∙ other) refl)
    c.in-Blank.is

pub returns-in-Blank-clause-rest : goal.returns-in-Blank-clause-rest
returns-in-Blank-clause-rest c = sym (skip_at _ _ _ _ c.take_row.ensures.text c.take_row.ensures.at)

pub returns-clause-step : goal.returns-clause-step
returns-clause-step c =
    let s = c.take_row.new.self in
    let skipped = skip_at c.args.self.now.text.now s.text.now c.args.self.now.at s.at c.take_row.ensures.text c.take_row.ensures.at in
    let more : s.at < length s.text.now = omega arith in
    elim c.match-class_of.branch [
      | in-Letter w ↦
          let row = w.take_row-in-Letter.ensures in
          rw (w.self-is, w.token-is) (skipped ∙ name_at s.text.now _ _ s.at _ row.text more (sym c.class_of.ensures ∙ w.in-Letter.is) row.at row.bytes)
      | in-Digit w ↦
          let row = w.take_row-in-Digit.ensures in
          rw (w.self-is, w.token-is) (skipped ∙ number_at s.text.now _ _ s.at _ row.text more (sym c.class_of.ensures ∙ w.in-Digit.is) row.at row.bytes)
      | in-Open w ↦ rw (w.self-is, w.token-is) (skipped ∙ one_at Open s.text.now _ s.at _ w.take.ensures.text more (sym c.class_of.ensures ∙ w.in-Open.is) w.take.ensures.at)
      | in-Close w ↦ rw (w.self-is, w.token-is) (skipped ∙ one_at Close s.text.now _ s.at _ w.take-in-Close.ensures.text more (sym c.class_of.ensures ∙ w.in-Close.is) w.take-in-Close.ensures.at)
    ]
