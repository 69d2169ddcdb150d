use Rattle.std.proofs.Common.{◌≡◌, ◌-◌, true, List, drop, Some, None, sym, refl, subst, arith}
use Rattle.query.specs.declared.node.Node.{Node}
use Rattle.rules.specs.Places.{KeptWithin, stand_first}
use Rattle.tidy.specs.Changes.{Changes}
use Rattle.tidy.specs.Edits.{Makeable, Made, Steps}
use Rattle.rules.proofs.Firsts.{stands_first}
use Rattle.tidy.proofs.Stepping.{within_stands, within_deep, progress_start, next_within, step_inside, step_passed, step_change, step_changed, step_done}
use Rattle.tidy.proofs.settle.+step.Goals as goal

pub loop-k-init : goal.loop-k-init
loop-k-init t c = (refl, progress_start c.args.levels c.args.sheet.now c.args.i)

pub overflow_sub-levels : goal.overflow_sub-levels
overflow_sub-levels t c = within_deep c.args.levels c.args.sheet.now c.args.i c.requires.kept

pub step-requires : goal.step-requires
step-requires t c =
    let deep = within_deep c.args.levels c.args.sheet.now c.args.i c.requires.kept in (
      omega arith,
      subst (λ (ns : List Node). KeptWithin (c.args.levels - 1) ns c.loop-k.next) (sym c.loop-k.invariant.0)
          (next_within c.args.levels c.args.sheet.now c.args.i c.loop-k.k c.loop-k.next c.loop-k.invariant.1 c.loop-k-test.true c.requires.kept),
    )

pub loop-k-preserved : goal.loop-k-preserved
loop-k-preserved t c =
    step_passed c.args.levels c.args.sheet.now c.step.new.sheet c.args.i c.loop-k.k c.loop-k.next c.in_ok-next.next c.requires.kept
    c.loop-k.invariant.1 c.loop-k-test.true
    (subst (λ (ns : List Node). Steps (c.args.levels - 1) ns c.step.new.sheet c.loop-k.next (Some c.in_ok-next.next)) c.loop-k.invariant.0
    c.in_ok-next.ensures)

pub returns-in_err-next : goal.returns-in_err-next
returns-in_err-next t c =
    subst (Steps c.args.levels c.args.sheet.now c.step.new.sheet c.args.i) (sym c.from_residual.ensures)
    (step_inside c.args.levels c.args.sheet.now c.step.new.sheet c.args.i c.loop-k.k c.loop-k.next c.loop-k.invariant.1 c.loop-k-test.true
    (subst (λ (ns : List Node). Steps (c.args.levels - 1) ns c.step.new.sheet c.loop-k.next None) c.loop-k.invariant.0 c.in_err-next.ensures))

pub invariant_of-find_change : goal.invariant_of-find_change
invariant_of-find_change t c = record {
  stands =
      subst (λ (ns : List Node). stand_first 1 (drop c.args.i ns) ≡ true) (sym c.loop-k.invariant.0)
      (stands_first c.args.sheet.now c.args.i (within_stands c.args.levels c.args.sheet.now c.args.i c.requires.kept));
}

pub make-requires : goal.make-requires
make-requires t c = record {
  makeable =
      subst (λ (ns : List Node). Makeable ns c.args.i c.in-Some.change) (sym c.loop-k.invariant.0)
      (step_change c.args.levels c.args.sheet.now c.args.i c.in-Some.change c.requires.kept
      (subst (λ (ns : List Node). Changes ns c.args.i (Some c.in-Some.change)) c.loop-k.invariant.0 c.in-Some.ensures));
}

pub returns-in-Some : goal.returns-in-Some
returns-in-Some t c =
    step_changed c.args.levels c.args.sheet.now c.args.i c.in-Some.change c.make.new.sheet
    (subst (λ (ns : List Node). Changes ns c.args.i (Some c.in-Some.change)) c.loop-k.invariant.0 c.in-Some.ensures)
    (subst (λ (ns : List Node). Made ns c.args.i c.in-Some.change c.make.new.sheet) c.loop-k.invariant.0 c.make.ensures)

pub returns-in-None : goal.returns-in-None
returns-in-None t c = λ s o q rest kept deep h.
    let d = step_done c.args.levels c.args.sheet.now c.args.i c.loop-k.k c.loop-k.next c.loop-k.invariant.1 c.loop-k-test.false
    (subst (λ (ns : List Node). Changes ns c.args.i None) c.loop-k.invariant.0 c.in-None.ensures) s o q rest kept deep h in
    (d.0, c.loop-k.invariant.0, d.2)
