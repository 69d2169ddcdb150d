use Rattle.std.proofs.Common.{ℕ, subst, arith, rules}
use Rattle.steps.specs.Meaning.{steps_of}
use Rattle.walk.specs.Walk.{KeptNext}
use Rattle.walk.proofs.Walking.{opened}
use Rattle.walk.proofs.Standing.{right_after, right_here}
use Rattle.walk.proofs.keeping.keep.Goals as goal

pub record_after-next-requires : goal.record_after-next-requires
record_after-next-requires c = record { stands = c.requires.stands; few = c.requires.right.few; nexts = λ x l r s. (c.requires.right.right x (omega arith)).next r s }

pub keep_next-requires : goal.keep_next-requires
keep_next-requires c = let o = opened 16 c.args.records.now c.requires.stands.0 c.args.i (omega arith) c.requires.stands.1 in let f = c.requires.right.few in search rules

pub keep_repeat-requires : goal.keep_repeat-requires
keep_repeat-requires c = record { stands = c.requires.stands; right = right_after c.args.kept.now _ c.args.records.now (steps_of c.args.steps.now) c.args.i c.keep_next.ensures.others c.requires.right }

pub keep_own-requires : goal.keep_own-requires
keep_own-requires c =
    let a = right_after c.args.kept.now c.keep_next.new.kept c.args.records.now (steps_of c.args.steps.now) c.args.i c.keep_next.ensures.others c.requires.right in
    let b = right_after c.keep_next.new.kept c.keep_repeat.new.kept c.args.records.now (steps_of c.args.steps.now) c.args.i c.keep_repeat.ensures.others a in
    record { stands = c.requires.stands; right = b; ready = c.keep_repeat.ensures.ready }

pub returns : goal.returns
returns c =
    let a = right_after c.args.kept.now c.keep_next.new.kept c.args.records.now (steps_of c.args.steps.now) c.args.i c.keep_next.ensures.others c.requires.right in
    let b = right_after c.keep_next.new.kept c.keep_repeat.new.kept c.args.records.now (steps_of c.args.steps.now) c.args.i c.keep_repeat.ensures.others a in
    let kn = subst (λ (n : ℕ). KeptNext c.args.kept.now c.keep_next.new.kept c.args.i n) c.record_after-next.ensures c.keep_next.ensures in
    right_here c.args.kept.now c.keep_next.new.kept c.keep_repeat.new.kept c.keep_own.new.kept c.args.records.now (steps_of c.args.steps.now) c.args.i kn c.keep_repeat.ensures c.keep_own.ensures b
