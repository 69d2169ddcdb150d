use Rattle.std.proofs.Common.{ℕ, ◌+◌, ◌-◌, List, length, map, sym, ap, ◌∙◌, refl, subst, arith, rules}
use Rattle.query.specs.declared.node.Kind.TheVariants.{Any, Concat, And, Or, Inorder}
use Rattle.query.specs.declared.node.Role.TheVariants.{Shape, Window, Count}
use Rattle.query.specs.Stands.{at as query_at}
use Rattle.shape.specs.Fits.{Rule}
use Rattle.steps.proofs.Length.{steps_few}
use Rattle.ends.specs.Member.{member}
use Rattle.wholes.specs.declared.view.Many.{Many}
use Rattle.wholes.specs.declared.view.View.TheVariants.{From}
use Rattle.wholes.specs.Shows.{repeated, counting, Shows}
use Rattle.wholes.specs.Turns.{at}
use Rattle.wholes.proofs.Joining.{Either, Sequel, sequel_start, sequel_more, AnyStart, AllStart}
use Rattle.wholes.proofs.Placing.{Reaches, reaches_start, reaches_more, reaches_all}
use Rattle.walk.specs.Walk.{many_of}
use Rattle.walk.specs.Seeing.{line, fitting, fittings, Seen, Begun}
use Rattle.walk.proofs.Walking.{opened, lifted, count_window}
use Rattle.walk.proofs.Going.{shows_own, later_as, as_symbol, as_any, as_concat, as_in, as_and, as_or, as_inorder, parts_in, some_parts, part_of_in, repeat_kind, as_repeat, as_count}
use Rattle.walk.specs.Places.{ahead}
use Rattle.walk.proofs.Row.{all_ahead, one_taken}
use Rattle.walk.proofs.Knowing.{few, repeat_shown, any_deeper, part_here, one_part}
use Rattle.walk.proofs.sight.+walk.Goals as goal

pub Sight::part-own-requires : goal.Sight::part-own-requires
Sight::part-own-requires t c =
    any_deeper c.args.self.now.walk c.args.levels Shape c.args.i c.requires

pub Sight::part-returns-in-Own : goal.Sight::part-returns-in-Own
Sight::part-returns-in-Own t c =
    shows_own _ (fitting c.args.self.now.walk c.args.i) c.args.self.now.view c.args.self.now.to (length (line c.args.self.now.walk)) c.in-Own.is c.args.self.now.high c.own.ensures

pub Sight::repeat-offset_bounds-self-i-2 : goal.Sight::repeat-offset_bounds-self-i-2
Sight::repeat-offset_bounds-self-i-2 t c =
    let o = opened c.args.levels c.args.self.now.walk.records.now Shape (c.args.i + 1) c.requires.stands.deep c.requires.stands.stands in let f = few c.args.self.now.walk in search rules

pub Sight::repeat-listed : goal.Sight::repeat-listed
Sight::repeat-listed t c =
    let o = opened c.args.levels c.args.self.now.walk.records.now Shape (c.args.i + 1) c.requires.stands.deep c.requires.stands.stands in let f = few c.args.self.now.walk in search rules

pub Sight::repeat-bounds-self-i-2 : goal.Sight::repeat-bounds-self-i-2
Sight::repeat-bounds-self-i-2 t c =
    let o = opened c.args.levels c.args.self.now.walk.records.now Shape (c.args.i + 1) c.requires.stands.deep c.requires.stands.stands in let f = few c.args.self.now.walk in search rules

pub Sight::repeat-returns : goal.Sight::repeat-returns
Sight::repeat-returns t c =
    let P = fitting c.args.self.now.walk (c.args.i + 1) in
    let n = length (line c.args.self.now.walk) in
    let small = steps_few c.args.self.now.walk.steps.now in
    let up = lifted c.args.levels c.args.self.now.walk.records.now Shape (c.args.i + 1) c.requires.stands.deep c.requires.stands.stands in
    let l = c.requires.stands.reached in
    repeat_shown c.args.self.now.walk c.args.i c.repeat.result (repeated n P (many_of (query_at c.args.self.now.walk.records.now c.args.i).kind (query_at c.args.self.now.walk.records.now c.args.i).number)) c.args.self.now.view c.args.self.now.to
    c.index-self-i.result c.index-self-i.result (omega arith) c.requires.repeats up
    (λ later stops.
    subst (λ (m : Many). Seen c.args.self.now c.repeat.result (repeated n P m)) c.many_of-many.ensures
    (c.repeat.ensures P n c.args.self.now.high (omega arith) c.part-opening.ensures (later_as _ P _ _ n c.many_of-many.ensures later) stops))

pub Sight::seen-offset_bounds-self-i : goal.Sight::seen-offset_bounds-self-i
Sight::seen-offset_bounds-self-i t c =
    let o = opened c.args.levels c.args.self.now.walk.records.now Shape c.args.i c.requires.deep c.requires.stands in
    let f = few c.args.self.now.walk in
    let d = o.deep in
    let l = c.requires.reached in
    search rules

pub Sight::seen-bounds-self-i : goal.Sight::seen-bounds-self-i
Sight::seen-bounds-self-i t c =
    let o = opened c.args.levels c.args.self.now.walk.records.now Shape c.args.i c.requires.deep c.requires.stands in
    let f = few c.args.self.now.walk in
    let d = o.deep in
    let l = c.requires.reached in
    search rules

pub Sight::seen-overflow_sub-levels : goal.Sight::seen-overflow_sub-levels
Sight::seen-overflow_sub-levels t c =
    let o = opened c.args.levels c.args.self.now.walk.records.now Shape c.args.i c.requires.deep c.requires.stands in
    let f = few c.args.self.now.walk in
    let d = o.deep in
    let l = c.requires.reached in
    search rules

pub Sight::seen-overflow_sub-levels-in-Concat : goal.Sight::seen-overflow_sub-levels-in-Concat
Sight::seen-overflow_sub-levels-in-Concat t c =
    let o = opened c.args.levels c.args.self.now.walk.records.now Shape c.args.i c.requires.deep c.requires.stands in
    let f = few c.args.self.now.walk in
    let d = o.deep in
    let l = c.requires.reached in
    search rules

pub Sight::seen-overflow_sub-levels-in-In : goal.Sight::seen-overflow_sub-levels-in-In
Sight::seen-overflow_sub-levels-in-In t c =
    let o = opened c.args.levels c.args.self.now.walk.records.now Shape c.args.i c.requires.deep c.requires.stands in
    let f = few c.args.self.now.walk in
    let d = o.deep in
    let l = c.requires.reached in
    search rules

pub Sight::seen-overflow_sub-levels-in_default : goal.Sight::seen-overflow_sub-levels-in_default
Sight::seen-overflow_sub-levels-in_default t c =
    let o = opened c.args.levels c.args.self.now.walk.records.now Shape c.args.i c.requires.deep c.requires.stands in
    let f = few c.args.self.now.walk in
    let d = o.deep in
    let l = c.requires.reached in
    search rules

pub Sight::seen-any-requires : goal.Sight::seen-any-requires
Sight::seen-any-requires t c =
    let o = opened c.args.levels c.args.self.now.walk.records.now Shape c.args.i c.requires.deep c.requires.stands in
    let f = few c.args.self.now.walk in
    let d = o.deep in
    let l = c.requires.reached in
    (omega arith, record { deep = omega arith; reached = omega arith; stand = parts_in (line c.args.self.now.walk) c.args.levels c.args.self.now.walk.records.now Shape c.args.i o Shape Any c.in-Any.is refl })

pub Sight::seen-concat-requires : goal.Sight::seen-concat-requires
Sight::seen-concat-requires t c =
    let o = opened c.args.levels c.args.self.now.walk.records.now Shape c.args.i c.requires.deep c.requires.stands in
    let f = few c.args.self.now.walk in
    let d = o.deep in
    let l = c.requires.reached in
    (omega arith, (record { deep = omega arith; reached = omega arith; stand = parts_in (line c.args.self.now.walk) c.args.levels c.args.self.now.walk.records.now Shape c.args.i o Shape Concat c.in-Concat.is refl }, some_parts (line c.args.self.now.walk) c.args.levels c.args.self.now.walk.records.now Shape c.args.i o c.in-Concat.is))

pub Sight::seen-window-requires : goal.Sight::seen-window-requires
Sight::seen-window-requires t c =
    let o = opened c.args.levels c.args.self.now.walk.records.now Shape c.args.i c.requires.deep c.requires.stands in
    let f = few c.args.self.now.walk in
    let d = o.deep in
    let l = c.requires.reached in
    (omega arith, record { deep = omega arith; reached = omega arith; stands = part_of_in (line c.args.self.now.walk) c.args.levels c.args.self.now.walk.records.now Shape c.args.i o c.requires.deep c.in-In.is })

pub Sight::seen-repeat-requires : goal.Sight::seen-repeat-requires
Sight::seen-repeat-requires t c =
    let o = opened c.args.levels c.args.self.now.walk.records.now Shape c.args.i c.requires.deep c.requires.stands in
    let f = few c.args.self.now.walk in
    let d = o.deep in
    let l = c.requires.reached in
    let e = repeat_kind (query_at c.args.self.now.walk.records.now c.args.i).kind o.kind_right c.in_default.not-Symbol c.in_default.not-Any c.in_default.not-Concat c.in_default.not-In in
    (omega arith, (e, record { deep = omega arith; reached = omega arith; stands = (as_repeat (line c.args.self.now.walk) c.args.levels c.args.self.now.walk.records.now c.args.i c.requires.deep o e).0 }))

pub Sight::seen-returns-in-Symbol : goal.Sight::seen-returns-in-Symbol
Sight::seen-returns-in-Symbol t c =
    let o = opened c.args.levels c.args.self.now.walk.records.now Shape c.args.i c.requires.deep c.requires.stands in
    subst (Seen c.args.self.now c.symbol.result) (sym (as_symbol (line c.args.self.now.walk) c.args.levels c.args.self.now.walk.records.now Shape c.args.i o c.in-Symbol.is)) c.symbol.ensures

pub Sight::seen-returns-in-Any : goal.Sight::seen-returns-in-Any
Sight::seen-returns-in-Any t c =
    let o = opened c.args.levels c.args.self.now.walk.records.now Shape c.args.i c.requires.deep c.requires.stands in
    subst (Seen c.args.self.now c.any.result) (sym (as_any (line c.args.self.now.walk) c.args.levels c.args.self.now.walk.records.now Shape c.args.i o c.in-Any.is)) c.any.ensures

pub Sight::seen-returns-in-Concat : goal.Sight::seen-returns-in-Concat
Sight::seen-returns-in-Concat t c =
    let o = opened c.args.levels c.args.self.now.walk.records.now Shape c.args.i c.requires.deep c.requires.stands in
    subst (Seen c.args.self.now c.concat.result) (sym (as_concat (line c.args.self.now.walk) c.args.levels c.args.self.now.walk.records.now Shape c.args.i o c.in-Concat.is)) c.concat.ensures

pub Sight::seen-returns-in-In : goal.Sight::seen-returns-in-In
Sight::seen-returns-in-In t c =
    let o = opened c.args.levels c.args.self.now.walk.records.now Shape c.args.i c.requires.deep c.requires.stands in
    subst (Seen c.args.self.now c.window.result) (sym (as_in (line c.args.self.now.walk) c.args.levels c.args.self.now.walk.records.now Shape c.args.i o c.in-In.is)) c.window.ensures

pub Sight::seen-returns-in_default : goal.Sight::seen-returns-in_default
Sight::seen-returns-in_default t c =
    let o = opened c.args.levels c.args.self.now.walk.records.now Shape c.args.i c.requires.deep c.requires.stands in
    let e = repeat_kind (query_at c.args.self.now.walk.records.now c.args.i).kind o.kind_right c.in_default.not-Symbol c.in_default.not-Any c.in_default.not-Concat c.in_default.not-In in
    subst (Seen c.args.self.now c.repeat.result) (sym (as_repeat (line c.args.self.now.walk) c.args.levels c.args.self.now.walk.records.now c.args.i c.requires.deep o e).1) c.repeat.ensures

pub Windows::counted-returns : goal.Windows::counted-returns
Windows::counted-returns t c =
    c.counted.ensures (fitting c.args.self.now.walk c.args.i) (length (line c.args.self.now.walk))
    (subst (λ (s : ℕ). Shows c.seen.result (fitting c.args.self.now.walk c.args.i) (From s) c.args.self.now.to (length (line c.args.self.now.walk))) c.from.ensures c.seen.ensures)

pub Windows::starts-offset_bounds-self-i : goal.Windows::starts-offset_bounds-self-i
Windows::starts-offset_bounds-self-i t c =
    let o = opened c.args.levels c.args.self.now.walk.records.now Window c.args.i c.requires.deep c.requires.stands in
    let f = few c.args.self.now.walk in
    let d = o.deep in
    let l = c.requires.reached in
    search rules

pub Windows::starts-bounds-self-i : goal.Windows::starts-bounds-self-i
Windows::starts-bounds-self-i t c =
    let o = opened c.args.levels c.args.self.now.walk.records.now Window c.args.i c.requires.deep c.requires.stands in
    let f = few c.args.self.now.walk in
    let d = o.deep in
    let l = c.requires.reached in
    search rules

pub Windows::starts-overflow_sub-levels : goal.Windows::starts-overflow_sub-levels
Windows::starts-overflow_sub-levels t c =
    let o = opened c.args.levels c.args.self.now.walk.records.now Window c.args.i c.requires.deep c.requires.stands in
    let f = few c.args.self.now.walk in
    let d = o.deep in
    let l = c.requires.reached in
    search rules

pub Windows::starts-overflow_sub-levels-in-Or : goal.Windows::starts-overflow_sub-levels-in-Or
Windows::starts-overflow_sub-levels-in-Or t c =
    let o = opened c.args.levels c.args.self.now.walk.records.now Window c.args.i c.requires.deep c.requires.stands in
    let f = few c.args.self.now.walk in
    let d = o.deep in
    let l = c.requires.reached in
    search rules

pub Windows::starts-overflow_sub-levels-in-Inorder : goal.Windows::starts-overflow_sub-levels-in-Inorder
Windows::starts-overflow_sub-levels-in-Inorder t c =
    let o = opened c.args.levels c.args.self.now.walk.records.now Window c.args.i c.requires.deep c.requires.stands in
    let f = few c.args.self.now.walk in
    let d = o.deep in
    let l = c.requires.reached in
    search rules

pub Windows::starts-overflow_add-i-in_default : goal.Windows::starts-overflow_add-i-in_default
Windows::starts-overflow_add-i-in_default t c =
    let o = opened c.args.levels c.args.self.now.walk.records.now Window c.args.i c.requires.deep c.requires.stands in
    let f = few c.args.self.now.walk in
    let d = o.deep in
    let l = c.requires.reached in
    search rules

pub Windows::starts-overflow_sub-levels-in_default : goal.Windows::starts-overflow_sub-levels-in_default
Windows::starts-overflow_sub-levels-in_default t c =
    let o = opened c.args.levels c.args.self.now.walk.records.now Window c.args.i c.requires.deep c.requires.stands in
    let f = few c.args.self.now.walk in
    let d = o.deep in
    let l = c.requires.reached in
    search rules

pub Windows::starts-all-requires : goal.Windows::starts-all-requires
Windows::starts-all-requires t c =
    let o = opened c.args.levels c.args.self.now.walk.records.now Window c.args.i c.requires.deep c.requires.stands in
    let f = few c.args.self.now.walk in
    let d = o.deep in
    let l = c.requires.reached in
    (omega arith, record { deep = omega arith; reached = omega arith; stand = parts_in (line c.args.self.now.walk) c.args.levels c.args.self.now.walk.records.now Window c.args.i o Count And c.in-And.is refl })

pub Windows::starts-returns-in-And : goal.Windows::starts-returns-in-And
Windows::starts-returns-in-And t c =
    let o = opened c.args.levels c.args.self.now.walk.records.now Window c.args.i c.requires.deep c.requires.stands in
    subst (Begun c.args.self.now c.all.result) (sym (as_and (line c.args.self.now.walk) c.args.levels c.args.self.now.walk.records.now Window c.args.i o c.in-And.is)) c.all.ensures

pub Windows::starts-either-requires : goal.Windows::starts-either-requires
Windows::starts-either-requires t c =
    let o = opened c.args.levels c.args.self.now.walk.records.now Window c.args.i c.requires.deep c.requires.stands in
    let f = few c.args.self.now.walk in
    let d = o.deep in
    let l = c.requires.reached in
    (omega arith, record { deep = omega arith; reached = omega arith; stand = parts_in (line c.args.self.now.walk) c.args.levels c.args.self.now.walk.records.now Window c.args.i o Count Or c.in-Or.is refl })

pub Windows::starts-returns-in-Or : goal.Windows::starts-returns-in-Or
Windows::starts-returns-in-Or t c =
    let o = opened c.args.levels c.args.self.now.walk.records.now Window c.args.i c.requires.deep c.requires.stands in
    subst (Begun c.args.self.now c.either.result) (sym (as_or (line c.args.self.now.walk) c.args.levels c.args.self.now.walk.records.now Window c.args.i o c.in-Or.is)) c.either.ensures

pub Windows::starts-in_order-requires : goal.Windows::starts-in_order-requires
Windows::starts-in_order-requires t c =
    let o = opened c.args.levels c.args.self.now.walk.records.now Window c.args.i c.requires.deep c.requires.stands in
    let f = few c.args.self.now.walk in
    let d = o.deep in
    let l = c.requires.reached in
    (omega arith, record { deep = omega arith; reached = omega arith; stand = parts_in (line c.args.self.now.walk) c.args.levels c.args.self.now.walk.records.now Window c.args.i o Shape Inorder c.in-Inorder.is refl })

pub Windows::starts-returns-in-Inorder : goal.Windows::starts-returns-in-Inorder
Windows::starts-returns-in-Inorder t c =
    let o = opened c.args.levels c.args.self.now.walk.records.now Window c.args.i c.requires.deep c.requires.stands in
    subst (Begun c.args.self.now c.in_order.result) (sym (as_inorder (line c.args.self.now.walk) c.args.levels c.args.self.now.walk.records.now Window c.args.i o c.in-Inorder.is)) c.in_order.ensures

pub Windows::starts-counted-requires : goal.Windows::starts-counted-requires
Windows::starts-counted-requires t c =
    let o = opened c.args.levels c.args.self.now.walk.records.now Window c.args.i c.requires.deep c.requires.stands in
    let f = few c.args.self.now.walk in
    let d = o.deep in
    let l = c.requires.reached in
    (omega arith, record { deep = omega arith; reached = omega arith; stands = (as_count (line c.args.self.now.walk) c.args.levels c.args.self.now.walk.records.now c.args.i c.requires.deep o c.in_default.not-And c.in_default.not-Or c.in_default.not-Inorder).0 })

pub Windows::starts-returns-in_default : goal.Windows::starts-returns-in_default
Windows::starts-returns-in_default t c =
    let o = opened c.args.levels c.args.self.now.walk.records.now Window c.args.i c.requires.deep c.requires.stands in
    subst (Begun c.args.self.now c.counted.result) (sym (as_count (line c.args.self.now.walk) c.args.levels c.args.self.now.walk.records.now c.args.i c.requires.deep o c.in_default.not-And c.in_default.not-Or c.in_default.not-Inorder).1)
    (subst (λ (m : Many). Begun c.args.self.now c.counted.result (counting (fitting c.args.self.now.walk (c.args.i + 1)) m)) c.many_of.ensures c.counted.ensures)

pub Sight::any-loop-part-init : goal.Sight::any-loop-part-init
Sight::any-loop-part-init t c =
    let b : Either (fittings c.args.self.now.walk c.args.parts c.args.first) (fittings c.args.self.now.walk c.args.parts c.args.first) c.args.self.now.view c.args.self.now.to (length (line c.args.self.now.walk)) c.empty-out.result = search rules in
    all_ahead c.args.self.now.walk c.args.levels Shape c.args.parts c.args.first (ahead c.into_iter-part-iterator.result) (λ (R : List Rule). Either (fittings c.args.self.now.walk c.args.parts c.args.first) R c.args.self.now.view c.args.self.now.to (length (line c.args.self.now.walk)) c.empty-out.result) (ap ahead c.into_iter-part-iterator.ensures.into_iter_gives ∙ c.parts-part-items.ensures) c.requires
    b

pub Sight::concat-after-requires : goal.Sight::concat-after-requires
Sight::concat-after-requires t c =
    ∣ (Shape, any_deeper c.args.self.now.walk c.args.levels Shape c.args.first (part_here c.args.self.now.walk c.args.levels Shape c.args.parts (c.args.parts - 1) c.args.first (let s = c.requires.some in omega arith) c.requires.stand)) ∣₁

pub Sight::concat-parts-part-items-requires : goal.Sight::concat-parts-part-items-requires
Sight::concat-parts-part-items-requires t c =
    (c.args.levels, Shape, (one_part c.args.self.now.walk c.args.levels Shape c.args.parts (c.args.parts - 1) c.args.first c.after.result (let s = c.requires.some in omega arith) c.after.ensures c.requires.stand).left)

pub Sight::concat-loop-part-init : goal.Sight::concat-loop-part-init
Sight::concat-loop-part-init t c =
    let p = one_part c.args.self.now.walk c.args.levels Shape c.args.parts (c.args.parts - 1) c.args.first c.after.result (let s = c.requires.some in omega arith) c.after.ensures c.requires.stand in
    all_ahead c.args.self.now.walk c.args.levels Shape (c.args.parts - 1) c.after.result (ahead c.into_iter-part-iterator.result) (λ (R : List Rule). Sequel (fittings c.args.self.now.walk c.args.parts c.args.first) R c.args.self.now.view c.args.self.now.to (length (line c.args.self.now.walk)) c.part-out.result) (ap ahead c.into_iter-part-iterator.ensures.into_iter_gives ∙ c.parts-part-items.ensures) p.left
    (subst (λ (R : List Rule). Sequel R (fittings c.args.self.now.walk (c.args.parts - 1) c.after.result) c.args.self.now.view c.args.self.now.to (length (line c.args.self.now.walk)) c.part-out.result) (sym p.rules_are)
    (sequel_start c.args.self.now.view c.args.self.now.to (length (line c.args.self.now.walk)) c.args.self.now.high (fitting c.args.self.now.walk c.args.first) (fittings c.args.self.now.walk (c.args.parts - 1) c.after.result) c.part-out.result c.part-out.ensures))

pub Sight::concat-own-requires : goal.Sight::concat-own-requires
Sight::concat-own-requires t c =
    any_deeper c.args.self.now.walk c.args.levels Shape c.in-Some.part (one_taken c.args.self.now.walk c.args.levels Shape c.in-Some.part (ahead c.loop-part.part-iterator) (ahead c.next.new.self) (λ (R : List Rule). Sequel (fittings c.args.self.now.walk c.args.parts c.args.first) R c.args.self.now.view c.args.self.now.to (length (line c.args.self.now.walk)) c.loop-part.out) c.in-Some.ensures.steps c.loop-part.invariant).0

pub Sight::concat-loop-part-preserved : goal.Sight::concat-loop-part-preserved
Sight::concat-loop-part-preserved t c =
    let s = one_taken c.args.self.now.walk c.args.levels Shape c.in-Some.part (ahead c.loop-part.part-iterator) (ahead c.next.new.self) (λ (R : List Rule). Sequel (fittings c.args.self.now.walk c.args.parts c.args.first) R c.args.self.now.view c.args.self.now.to (length (line c.args.self.now.walk)) c.loop-part.out) c.in-Some.ensures.steps c.loop-part.invariant in
    (s.1, sequel_more c.args.self.now.view c.args.self.now.to (length (line c.args.self.now.walk)) c.args.self.now.high (fittings c.args.self.now.walk c.args.parts c.args.first) (fitting c.args.self.now.walk c.in-Some.part) (map (fitting c.args.self.now.walk) (ahead c.next.new.self)) c.loop-part.out _ c.then-out.result c.own.ensures c.then-out.ensures s.2)

pub Windows::all-loop-part-init : goal.Windows::all-loop-part-init
Windows::all-loop-part-init t c =
    let b : AllStart (fittings c.args.self.now.walk c.args.parts c.args.first) c.args.self.now.s c.args.self.now.len c.args.self.now.to (fittings c.args.self.now.walk c.args.parts c.args.first) (member c.range-out.result) = search rules in
    all_ahead c.args.self.now.walk c.args.levels Count c.args.parts c.args.first (ahead c.into_iter-part-iterator.result) (λ (R : List Rule). AllStart (fittings c.args.self.now.walk c.args.parts c.args.first) c.args.self.now.s c.args.self.now.len c.args.self.now.to R (member c.range-out.result)) (ap ahead c.into_iter-part-iterator.ensures.into_iter_gives ∙ c.parts-part-items.ensures) c.requires
    b

pub Windows::all-starts-requires : goal.Windows::all-starts-requires
Windows::all-starts-requires t c =
    let s = (one_taken c.args.self.now.walk c.args.levels Count c.in-Some.part (ahead c.loop-part.part-iterator) (ahead c.next.new.self) (λ (R : List Rule). AllStart (fittings c.args.self.now.walk c.args.parts c.args.first) c.args.self.now.s c.args.self.now.len c.args.self.now.to R (member c.loop-part.out)) c.in-Some.ensures.steps c.loop-part.invariant).0 in
    (omega arith, record { deep = s.deep; reached = s.reached; stands = count_window c.args.levels c.args.self.now.walk.records.now c.in-Some.part s.deep s.stands })

pub Windows::either-loop-part-init : goal.Windows::either-loop-part-init
Windows::either-loop-part-init t c =
    let b : AnyStart (fittings c.args.self.now.walk c.args.parts c.args.first) c.args.self.now.s c.args.self.now.len c.args.self.now.to (fittings c.args.self.now.walk c.args.parts c.args.first) (member c.empty-out.result) = search rules in
    all_ahead c.args.self.now.walk c.args.levels Count c.args.parts c.args.first (ahead c.into_iter-part-iterator.result) (λ (R : List Rule). AnyStart (fittings c.args.self.now.walk c.args.parts c.args.first) c.args.self.now.s c.args.self.now.len c.args.self.now.to R (member c.empty-out.result)) (ap ahead c.into_iter-part-iterator.ensures.into_iter_gives ∙ c.parts-part-items.ensures) c.requires
    b

pub Windows::either-starts-requires : goal.Windows::either-starts-requires
Windows::either-starts-requires t c =
    let s = (one_taken c.args.self.now.walk c.args.levels Count c.in-Some.part (ahead c.loop-part.part-iterator) (ahead c.next.new.self) (λ (R : List Rule). AnyStart (fittings c.args.self.now.walk c.args.parts c.args.first) c.args.self.now.s c.args.self.now.len c.args.self.now.to R (member c.loop-part.out)) c.in-Some.ensures.steps c.loop-part.invariant).0 in
    (omega arith, record { deep = s.deep; reached = s.reached; stands = count_window c.args.levels c.args.self.now.walk.records.now c.in-Some.part s.deep s.stands })

pub Windows::in_order-loop-part-init : goal.Windows::in_order-loop-part-init
Windows::in_order-loop-part-init t c =
    let n = steps_few c.args.self.now.walk.steps.now in
    let h = c.args.self.now.high in
    all_ahead c.args.self.now.walk c.args.levels Shape c.args.parts c.args.first (ahead c.into_iter-part-iterator.result) (λ (R : List Rule). Reaches (fittings c.args.self.now.walk c.args.parts c.args.first) R c.args.self.now.s c.args.self.now.to (at c.start-reach.result)) (ap ahead c.into_iter-part-iterator.ensures.into_iter_gives ∙ c.parts-part-items.ensures) c.requires
    (reaches_start (fittings c.args.self.now.walk c.args.parts c.args.first) c.args.self.now.s c.args.self.now.to (at c.start-reach.result) (omega arith) c.start-reach.ensures c.start-reach.result.small)

pub Windows::in_order-loop-part-preserved : goal.Windows::in_order-loop-part-preserved
Windows::in_order-loop-part-preserved t c =
    let n = steps_few c.args.self.now.walk.steps.now in
    let h = c.args.self.now.high in
    let s = one_taken c.args.self.now.walk c.args.levels Shape c.in-Some.part (ahead c.loop-part.part-iterator) (ahead c.next.new.self) (λ (R : List Rule). Reaches (fittings c.args.self.now.walk c.args.parts c.args.first) R c.args.self.now.s c.args.self.now.to (at c.loop-part.reach)) c.in-Some.ensures.steps c.loop-part.invariant in (
      s.1,
      reaches_more (fitting c.args.self.now.walk c.in-Some.part) (fittings c.args.self.now.walk c.args.parts c.args.first) (map (fitting c.args.self.now.walk) (ahead c.next.new.self)) c.args.self.now.s c.args.self.now.to (length (line c.args.self.now.walk)) c.seen.result (at c.loop-part.reach) (at c.advance-reach.result) (at c.earliest.result)
          c.args.self.now.high (omega arith) (subst (λ (s : ℕ). Shows c.seen.result (fitting c.args.self.now.walk c.in-Some.part) (From s) c.args.self.now.to (length (line c.args.self.now.walk))) c.from.ensures c.seen.ensures) c.earliest.ensures c.advance-reach.ensures c.advance-reach.result.small s.2,
    )

pub Windows::in_order-returns : goal.Windows::in_order-returns
Windows::in_order-returns t c =
    let placed = reaches_all (fittings c.args.self.now.walk c.args.parts c.args.first) c.args.self.now.s c.args.self.now.to (at c.loop-part.reach) (subst (λ (ps : List ℕ). Reaches (fittings c.args.self.now.walk c.args.parts c.args.first) (map (fitting c.args.self.now.walk) ps) c.args.self.now.s c.args.self.now.to (at c.loop-part.reach)) c.in-None.ensures.steps.0 c.loop-part.invariant.1) in
    λ a. (
      λ u. (let r = (c.within.ensures a).0 u in (r.0, r.1, (placed a (a + c.args.self.now.len) r.0 (omega arith) r.1).1 r.2)),
      λ h. (c.within.ensures a).1 (h.0, h.1, (placed a (a + c.args.self.now.len) h.0 (omega arith) h.1).0 h.2),
    )
