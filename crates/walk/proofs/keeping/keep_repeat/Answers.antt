use Rattle.std.proofs.Common.{ℕ, ◌+◌, length, sym, refl, ◌∙◌, subst, arith, rules}
use Rattle.query.specs.declared.node.Role.TheVariants.{Shape}
use Rattle.steps.specs.Meaning.{steps_of}
use Rattle.wholes.specs.declared.view.Many.{Many}
use Rattle.wholes.specs.Shows.{Later, Stops}
use Rattle.walk.specs.Walk.{rule}
use Rattle.walk.proofs.Walking.{opened}
use Rattle.walk.proofs.Standing.{repeated_part, repeat_kept, own_at}
use Rattle.walk.proofs.keeping.keep_repeat.Goals as goal

pub offset_bounds-records-i : goal.offset_bounds-records-i
offset_bounds-records-i c = let o = opened 16 c.args.records.now c.requires.stands.0 c.args.i (omega arith) c.requires.stands.1 in let f = c.requires.right.few in search rules

pub bounds-records-i : goal.bounds-records-i
bounds-records-i c = let o = opened 16 c.args.records.now c.requires.stands.0 c.args.i (omega arith) c.requires.stands.1 in let f = c.requires.right.few in search rules

pub overflow_add-own : goal.overflow_add-own
overflow_add-own c = let up = repeated_part c.args.records.now c.args.i c.requires.stands (sym c.is_repeat.ensures ∙ c.if-not-is_repeat.false) in let o = opened 16 c.args.records.now Shape (c.args.i + 1) (omega arith) up in let f = c.requires.right.few in search rules

pub offset_bounds-kept-i : goal.offset_bounds-kept-i
offset_bounds-kept-i c = let up = repeated_part c.args.records.now c.args.i c.requires.stands (sym c.is_repeat.ensures ∙ c.if-not-is_repeat.false) in let o = opened 16 c.args.records.now Shape (c.args.i + 1) (omega arith) up in let f = c.requires.right.few in search rules

pub listed : goal.listed
listed c = let up = repeated_part c.args.records.now c.args.i c.requires.stands (sym c.is_repeat.ensures ∙ c.if-not-is_repeat.false) in let o = opened 16 c.args.records.now Shape (c.args.i + 1) (omega arith) up in let f = c.requires.right.few in search rules

pub bounds-kept-i : goal.bounds-kept-i
bounds-kept-i c = let up = repeated_part c.args.records.now c.args.i c.requires.stands (sym c.is_repeat.ensures ∙ c.if-not-is_repeat.false) in let o = opened 16 c.args.records.now Shape (c.args.i + 1) (omega arith) up in let f = c.requires.right.few in search rules

pub offset_bounds-kept-i-2 : goal.offset_bounds-kept-i-2
offset_bounds-kept-i-2 c = let up = repeated_part c.args.records.now c.args.i c.requires.stands (sym c.is_repeat.ensures ∙ c.if-not-is_repeat.false) in let o = opened 16 c.args.records.now Shape (c.args.i + 1) (omega arith) up in let f = c.requires.right.few in search rules

pub listed-2 : goal.listed-2
listed-2 c = let up = repeated_part c.args.records.now c.args.i c.requires.stands (sym c.is_repeat.ensures ∙ c.if-not-is_repeat.false) in let o = opened 16 c.args.records.now Shape (c.args.i + 1) (omega arith) up in let f = c.requires.right.few in search rules

pub bounds-kept-i-2 : goal.bounds-kept-i-2
bounds-kept-i-2 c = let up = repeated_part c.args.records.now c.args.i c.requires.stands (sym c.is_repeat.ensures ∙ c.if-not-is_repeat.false) in let o = opened 16 c.args.records.now Shape (c.args.i + 1) (omega arith) up in let f = c.requires.right.few in search rules

pub later-later-requires : goal.later-later-requires
later-later-requires c =
    let up = repeated_part c.args.records.now c.args.i c.requires.stands (sym c.is_repeat.ensures ∙ c.if-not-is_repeat.false) in
    let o = opened 16 c.args.records.now Shape (c.args.i + 1) (omega arith) up in
    let f = c.requires.right.few in
    let shown = ((c.requires.right.right (c.args.i + 1) (omega arith)).own up _) in
    let e = c.len.ensures.length in
    let s = c.len.ensures.few in
    λ x y h. (let u = (shown.sound x y h).high in omega arith)

pub returns : goal.returns
returns c =
    let up = repeated_part c.args.records.now c.args.i c.requires.stands (sym c.is_repeat.ensures ∙ c.if-not-is_repeat.false) in
    let o = opened 16 c.args.records.now Shape (c.args.i + 1) (omega arith) up in
    let f = c.requires.right.few in
    let P = rule (steps_of c.args.steps.now) c.args.records.now (c.args.i + 1) in
    let n = length (steps_of c.args.steps.now) in
    let shown = (c.requires.right.right (c.args.i + 1) (omega arith)).own up _ in
    repeat_kept c.args.kept.now _ c.args.i _ (omega arith) refl c.args.records.now (steps_of c.args.steps.now) c.index-kept-i-2.result c.index-kept-i-3.result refl refl
    (subst (λ (m : Many). Later c.later-later.result P m n) c.many_of.ensures
    (subst (λ (m : ℕ). Later c.later-later.result P c.many_of.result m) c.len.ensures.length (c.later-later.ensures P (own_at _ P n c.len.result c.len.ensures.length shown))))
    (subst (λ (m : ℕ). Stops c.stops-stops.result P m) c.len-2.ensures.length (c.stops-stops.ensures P (own_at _ P n c.len-2.result c.len-2.ensures.length shown)))
