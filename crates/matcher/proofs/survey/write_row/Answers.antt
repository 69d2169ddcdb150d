use Rattle.std.proofs.Common.{◌≡◌, ℕ, List, [], ◌∷◌, ◌++◌, length, map, refl, ap, sym, ◌∙◌, subst, append_assoc, append-nil, arith, rules}
use Rattle.std.proofs.lemmas.List.{length-append}
use Rattle.shape.specs.Ranges.{stretch}
use Rattle.ends.specs.Member.{member}
use Rattle.ends.specs.Positions.{left, members}
use Rattle.ends.proofs.Tallies.{tally_le}
use Rattle.matcher.specs.Answers.{Puts}
use Rattle.matcher.proofs.Writing.{puts_none, puts_more, row_room, length_listed}
use Rattle.matcher.proofs.survey.write_row.Goals as goal

pub loop-i-init : goal.loop-i-init
loop-i-init c =
    let e = ap length c.iter-b-items.ensures in
    let t = tally_le (member c.args.row.now) 256 0 in
    let n = length_listed (member c.args.row.now) 256 0 in
    (omega arith, refl, refl, puts_none c.args.out.now c.args.place)

pub bounds-out-place : goal.bounds-out-place
bounds-out-place c =
    let e = sym c.iter-b-items.ensures ∙ c.loop-i.invariant.1 ∙ ap (λ (l : List ℕ). c.loop-i.yielded ++ l) c.in-Some.ensures.steps in
    let k : length c.loop-i.out ≡ length c.args.out.now = c.loop-i.auto.out in
    let r = row_room (members c.args.row.now) c.loop-i.yielded (left c.next.new.self) c.args.place c.loop-i.i c.args.a c.in-Some.b (length c.args.out.now) e c.loop-i.invariant.2 c.requires in
    omega arith

pub overflow_add-place : goal.overflow_add-place
overflow_add-place c = let r = bounds-out-place c in search rules

pub offset_bounds-out-place : goal.offset_bounds-out-place
offset_bounds-out-place c = let r = bounds-out-place c in search rules

pub loop-i-preserved : goal.loop-i-preserved
loop-i-preserved c =
    let s = c.in-Some.ensures.steps in
    let e = ap length s in
    let i = c.loop-i.invariant.0 in
    let d = c.loop-i.invariant.2 in
    let n = length-append c.loop-i.yielded (c.in-Some.b ∷ []) in (
      omega arith,
      c.loop-i.invariant.1 ∙ ap (λ (l : List ℕ). c.loop-i.yielded ++ l) s ∙ sym (append_assoc c.loop-i.yielded (c.in-Some.b ∷ []) (left c.next.new.self)),
      omega arith,
      puts_more c.args.out.now c.loop-i.out c.loop-i.yielded c.args.place c.loop-i.i c.args.a c.in-Some.b d (bounds-out-place c) c.loop-i.invariant.3,
    )

pub returns-clause-written : goal.returns-clause-written
returns-clause-written c =
    let e = sym (append-nil c.loop-i.yielded) ∙ ap (λ (l : List ℕ). c.loop-i.yielded ++ l) (sym c.in-None.ensures.steps.0) ∙ sym c.loop-i.invariant.1 ∙ c.iter-b-items.ensures in
    subst (λ (l : List ℕ). Puts c.args.out.now c.loop-i.out (map (stretch c.args.a) l) c.args.place) e c.loop-i.invariant.3
