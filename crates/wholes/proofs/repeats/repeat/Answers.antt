use Rattle.std.proofs.Common.{◌+◌, rules}
use Rattle.ends.specs.Member.{member}
use Rattle.wholes.proofs.Chains.{reached_from, reached_own, repeats_put, repeat_shows}
use Rattle.wholes.proofs.repeats.repeat.Goals as goal
use Rattle.wholes.proofs.repeats.repeat.Goals.{in-From, in-Own}

pub loop-a-preserved : goal.loop-a-preserved
loop-a-preserved c =
    repeats_put c.lowest-a.result c.args.to c.rising-first.result c.args.later.now c.loop-a.out c.put.new.self
    c.args.stops.now c.match-view.reached c.allows-null.result (member c.repeat_row.result) c.loop-a.a (search rules) (search rules)
    c.repeat_row.ensures c.put.ensures c.loop-a.invariant

pub returns-after-view : goal.returns-after-view
returns-after-view c = λ P n l small shown follows ends.
    repeat_shows P c.args.many c.args.view c.args.to n c.args.opening.now c.rising-first.result c.args.later.now c.args.stops.now
    c.match-view.reached l small shown follows ends c.rising-first.ensures c.allows-null.result c.loop-a.out c.lowest-a.result c.loop-a.a
    c.lowest-a.ensures c.allows-null.ensures
    (elim c.match-view.branch [
      | in-From w ↦
          reached_from c.args.view _ c.rising-first.result c.match-view.reached w.reached-reached.result w.in-From.is w.reached-is w.reached-reached.ensures
      | in-Own w ↦
          reached_own c.args.view c.rising-first.result c.match-view.reached w.empty-reached.result w.in-Own.is w.reached-is w.empty-reached.ensures
    ])
    (search rules) c.loop-a.invariant

pub returns-after-view-2 : goal.returns-after-view-2
returns-after-view-2 c = λ P n l small shown follows ends.
    repeat_shows P c.args.many c.args.view c.args.to n c.args.opening.now c.rising-first.result c.args.later.now c.args.stops.now
    c.match-view.reached l small shown follows ends c.rising-first.ensures c.allows-null.result c.put.new.self c.lowest-a.result (c.loop-a.a + 1)
    c.lowest-a.ensures c.allows-null.ensures
    (elim c.match-view.branch [
      | in-From w ↦
          reached_from c.args.view _ c.rising-first.result c.match-view.reached w.reached-reached.result w.in-From.is w.reached-is w.reached-reached.ensures
      | in-Own w ↦
          reached_own c.args.view c.rising-first.result c.match-view.reached w.empty-reached.result w.in-Own.is w.reached-is w.empty-reached.ensures
    ])
    (search rules) (repeats_put c.lowest-a.result c.args.to c.rising-first.result c.args.later.now c.loop-a.out c.put.new.self
    c.args.stops.now c.match-view.reached c.allows-null.result (member c.repeat_row.result) c.loop-a.a (search rules) (search rules)
    c.repeat_row.ensures c.put.ensures c.loop-a.invariant)
