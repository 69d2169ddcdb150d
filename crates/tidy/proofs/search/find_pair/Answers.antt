use Rattle.std.proofs.Common.{◌≡◌, ◌-◌, ℕ, List, Some, None, sym, refl, ap, ◌∙◌, subst, arith}
use Rattle.query.specs.declared.node.Node.{Node}
use Rattle.rules.proofs.Cursor.{Cursor, cursor_start}
use Rattle.tidy.specs.Outcomes.{some_joined}
use Rattle.tidy.specs.Searches.{Pairs}
use Rattle.tidy.proofs.Finding.{split_pair, split_passed, pair_missing}
use Rattle.tidy.proofs.search.find_pair.Goals as goal

pub loop-x-init : goal.loop-x-init
loop-x-init c =
    let none : 0 ≡ c.args.parts.count - c.args.parts.count = omega arith in (
      refl,
      omega arith,
      subst (λ (k : ℕ). Cursor (some_joined c.args.whole) c.args.parts.records.now c.args.parts.count c.args.parts.at k c.args.parts.at) none
          (cursor_start (some_joined c.args.whole) c.args.parts.records.now c.args.parts.count c.args.parts.at),
    )

pub returns-in-Some-find_partner-clause-lie : goal.returns-in-Some-find_partner-clause-lie
returns-in-Some-find_partner-clause-lie c =
    let v = c.loop-x.invariant in
    let s = c.in-Some.ensures in (
      ap (λ (p : List Node × ℕ). p.0) s.0 ∙ v.0,
      (split_pair c.args.whole c.args.parts.records.now c.args.parts.count c.args.parts.at c.loop-x.row.count c.loop-x.row.at c.in-Some.behind.count
          c.in-Some.behind.at c.loop-x.row.records.now c.in-Some.behind.records.now _ v.0 v.1 v.2 s c.within.result.count c.within.result.at
          c.within.result.records.now _ c.within.ensures.records c.within.ensures.first c.within.ensures.count c.in-Some-find_partner.ensures _ _ refl).0,
    )

pub returns-in-Some-find_partner-clause-pair : goal.returns-in-Some-find_partner-clause-pair
returns-in-Some-find_partner-clause-pair c =
    let v = c.loop-x.invariant in
    let s = c.in-Some.ensures in
    subst (λ (x : ℕ). Pairs c.args.whole c.args.parts.records.now c.args.parts.count c.args.parts.at (Some (x, c.in-Some-find_partner.y.at)))
    (sym (ap (λ (p : List Node × ℕ). p.1) s.0))
    (split_pair c.args.whole c.args.parts.records.now c.args.parts.count c.args.parts.at c.loop-x.row.count c.loop-x.row.at c.in-Some.behind.count
    c.in-Some.behind.at c.loop-x.row.records.now c.in-Some.behind.records.now _ v.0 v.1 v.2 s c.within.result.count c.within.result.at
    c.within.result.records.now _ c.within.ensures.records c.within.ensures.first c.within.ensures.count c.in-Some-find_partner.ensures _ _ refl).1

pub loop-x-preserved : goal.loop-x-preserved
loop-x-preserved c =
    let v = c.loop-x.invariant in
    let s = c.in-Some.ensures in
    let n = s.1 in
    let l = v.1 in (
      s.2 ∙ v.0,
      omega arith,
      split_passed c.args.whole c.args.parts.records.now c.args.parts.count c.args.parts.at c.loop-x.row.count c.loop-x.row.at c.in-Some.behind.count
          c.in-Some.behind.at c.loop-x.row.records.now c.in-Some.behind.records.now _ v.0 v.1 v.2 s c.within.result.count c.within.result.at
          c.within.result.records.now None c.within.ensures.records c.within.ensures.first c.within.ensures.count c.in_default-find_partner.ensures refl,
    )

pub returns-clause-pair : goal.returns-clause-pair
returns-clause-pair c =
    let v = c.loop-x.invariant in
    let z : c.loop-x.row.count ≡ 0 = c.in_default.ensures in
    pair_missing c.args.whole c.args.parts.records.now c.args.parts.count c.args.parts.at (c.args.parts.count - c.loop-x.row.count) c.loop-x.row.at v.2
    (omega arith)
