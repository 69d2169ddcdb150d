use Rattle.std.proofs.Common.{◌≡◌, ℕ, ◌+◌, ◌-◌, ◌≤◌, List, Option, None, get_or, set, sym, subst, arith, rules}
use Rattle.ends.specs.Member.{member}
use Rattle.wholes.specs.Places.{place_of}
use Rattle.wholes.specs.Turns.{Earliest}
use Rattle.wholes.proofs.Placing.{EndsFrom, ends_none, ends_more, ends_all}
use Rattle.wholes.proofs.reach.Reach.earliest.Goals as goal
use Rattle.wholes.proofs.reach.Reach.earliest.Goals.{else-loop-x-test, then-loop-x-test+else-x-gt0}

pub loop-x-init : goal.loop-x-init
loop-x-init c = ends_none c.args.table.now (member c.empty-reached.result) c.empty-reached.ensures

pub loop-x-preserved : goal.loop-x-preserved
loop-x-preserved c =
    let e : c.loop-x.x ≡ (c.loop-x.x - 1) + 1 = search rules in
    rw c.from.ensures
    (subst (EndsFrom c.args.table.now (member c.union_with.new.self) (set c.loop-x.ends c.loop-x.x c.next_from.result)) e
    (ends_more c.args.table.now (member c.loop-x.reached) (member c.union_with.new.self) (member c.row.result) c.loop-x.ends c.loop-x.x c.next_from.result
    (search rules) c.row.ensures c.union_with.ensures c.next_from.ensures c.loop-x.invariant))

pub returns : goal.returns
returns c =
    let Right : List (Option ℕ) → Type 0 = λ xs. (x : ℕ) → x ≤ 256 → Earliest c.args.table.now x (place_of (get_or xs x None)) in
    elim c.loop-x-test.branch [
      | else-loop-x-test w ↦ absurd (let l = w.loop-x-test.false in let u = c.loop-x.auto.x in omega arith)
      | then-loop-x-test+else-x-gt0 w ↦
          let z : c.loop-x.x ≡ 0 = search rules in
          subst Right (sym w.ends-is)
          (rw w.from.ensures
          (ends_all c.args.table.now (member w.union_with.new.self) (set c.loop-x.ends c.loop-x.x w.next_from.result)
          (subst (EndsFrom c.args.table.now (member w.union_with.new.self) (set c.loop-x.ends c.loop-x.x w.next_from.result)) z
          (ends_more c.args.table.now (member c.loop-x.reached) (member w.union_with.new.self) (member w.row.result) c.loop-x.ends c.loop-x.x w.next_from.result
          (search rules) w.row.ensures w.union_with.ensures w.next_from.ensures c.loop-x.invariant))))
    ]
