use Rattle.tidy.proofs.Stepping.{settling_start, settling_within, settling_more, settling_less, settling_end}
use Rattle.tidy.proofs.settle.settle.Goals as goal

pub loop-end-init : goal.loop-end-init
loop-end-init c = settling_start c.args.sheet.now

pub step-requires : goal.step-requires
step-requires c = record { kept = settling_within c.args.sheet.now c.loop-end.sheet c.loop-end.auto.sheet c.requires.kept c.loop-end.invariant }

pub loop-end-smaller : goal.loop-end-smaller
loop-end-smaller c =
    settling_less c.loop-end.sheet c.step.new.sheet
    (settling_within c.args.sheet.now c.loop-end.sheet c.loop-end.auto.sheet c.requires.kept c.loop-end.invariant) c.in_default.ensures

pub loop-end-preserved : goal.loop-end-preserved
loop-end-preserved c = settling_more c.args.sheet.now c.loop-end.sheet c.step.new.sheet c.loop-end.invariant c.in_default.ensures

pub returns-in-Some : goal.returns-in-Some
returns-in-Some c = settling_end c.args.sheet.now c.loop-end.sheet c.step.new.sheet c.in-Some.end c.loop-end.invariant c.in-Some.ensures
