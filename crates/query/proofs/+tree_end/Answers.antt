use Rattle.std.proofs.Common.{◌+◌, ◌-◌, ◌∙◌, arith}
use Rattle.query.specs.Stands.{at, end_at}
use Rattle.query.proofs.Ending.{end_out, end_wrong, end_on, ends_more, ends_stop, ends_all}
use Rattle.query.proofs.+tree_end.Goals as goal

pub returns-then-levels-eq0 : goal.returns-then-levels-eq0
returns-then-levels-eq0 t c = end_out c.args.stage c.args.records.now c.args.role c.args.i c.args.levels c.then-levels-eq0.either

pub returns-then-not-right : goal.returns-then-not-right
returns-then-not-right t c =
    end_wrong c.args.stage c.args.records.now c.args.role c.args.i c.args.levels c.if-not-right.ensures

pub loop-k-preserved : goal.loop-k-preserved
loop-k-preserved t c =
    let parts = (at c.args.records.now c.args.i).parts in
    ends_more (end_at c.args.stage (c.args.levels - 1) c.args.records.now c.part_role-inner.result) (parts - c.loop-k.k)
    (parts - (c.loop-k.k + 1)) c.loop-k.next c.in_ok-next.next (omega arith) c.in_ok-next.ensures
    ∙ c.loop-k.invariant

pub returns-in_err-next : goal.returns-in_err-next
returns-in_err-next t c =
    let parts = (at c.args.records.now c.args.i).parts in
    c.from_residual.ensures
    ∙ ends_stop (end_at c.args.stage (c.args.levels - 1) c.args.records.now c.part_role-inner.result) (parts - c.loop-k.k)
    (parts - (c.loop-k.k + 1)) c.loop-k.next (omega arith) c.in_err-next.ensures
    ∙ c.loop-k.invariant
    ∙ end_on c.args.stage c.args.records.now c.args.role c.args.i c.args.levels c.part_role-inner.result
    c.if-levels-eq0.false c.if-i-records.false c.if-not-right.ensures c.part_role-inner.ensures

pub returns : goal.returns
returns t c =
    let parts = (at c.args.records.now c.args.i).parts in
    ends_all (end_at c.args.stage (c.args.levels - 1) c.args.records.now c.part_role-inner.result) (parts - c.loop-k.k) c.loop-k.next (omega arith)
    ∙ c.loop-k.invariant
    ∙ end_on c.args.stage c.args.records.now c.args.role c.args.i c.args.levels c.part_role-inner.result
    c.if-levels-eq0.false c.if-i-records.false c.if-not-right.ensures c.part_role-inner.ensures
