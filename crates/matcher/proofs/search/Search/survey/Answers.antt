use Rattle.std.proofs.Common.{◌≡◌, ◌+◌, ◌-◌, ◌≤◌, length, subst, arith, rules}
use Rattle.query.specs.declared.node.Role.TheVariants.{Shape}
use Rattle.query.specs.declared.node.Stage.TheVariants.{Bound}
use Rattle.walk.specs.Walk.{RightFrom}
use Rattle.walk.proofs.Walking.{query_stands, within}
use Rattle.walk.proofs.Going.{right_on}
use Rattle.walk.proofs.Standing.{right_none}
use Rattle.matcher.specs.Searching.{line}
use Rattle.matcher.proofs.search.Search.survey.Goals as goal

pub loop-i-init : goal.loop-i-init
loop-i-init c =
    let s = c.args.self.now in
    right_none c.empty-kept.result s.records.now (line s) (query_stands (Bound s.symbols) s.records.now s.query).0

pub keep-requires : goal.keep-requires
keep-requires c =
    let s = c.args.self.now in
    let q = query_stands (Bound s.symbols) s.records.now s.query in
    let e : c.loop-i.i ≡ (c.loop-i.i - 1) + 1 = search rules in
    record {
      stands = within (Bound s.symbols) s.records.now 16 Shape 0 (length s.records.now) (c.loop-i.i - 1) q.1 (omega arith) (search rules);
      right = subst (RightFrom c.loop-i.kept s.records.now (line s)) e c.loop-i.invariant;
    }

pub invariant_of-sight : goal.invariant_of-sight
invariant_of-sight c =
    let s = c.args.self.now in
    let z : c.loop-i.i ≤ 0 = search rules in
    record {
      right = ∣ record {
        ready = (c.loop-i.invariant.right 0 z).ready;
        later = right_on c.loop-i.kept s.records.now (line s) c.loop-i.i (0 + 1) (omega arith) c.loop-i.invariant;
      } ∣₁;
    }

pub seen-requires : goal.seen-requires
seen-requires c =
    let s = c.args.self.now in
    record { deep = omega arith; reached = omega arith; stands = (Bound s.symbols, length s.records.now, (query_stands (Bound s.symbols) s.records.now s.query).1) }
