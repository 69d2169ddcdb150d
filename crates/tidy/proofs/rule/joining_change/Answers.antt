use Rattle.std.proofs.Common.{Some, None, sym, ap, ◌∙◌, subst}
use Rattle.query.specs.declared.node.Node.{Node}
use Rattle.tidy.specs.Changes.{Joining}
use Rattle.tidy.proofs.Finding.{pairs_here, outcome_here}
use Rattle.tidy.proofs.Changing.{join_change, clear_change, never_apart, nothing_joins}
use Rattle.tidy.proofs.rule.joining_change.Goals as goal

pub returns-in_err-x : goal.returns-in_err-x
returns-in_err-x c =
    let whole = ap (λ (x : Node). x.kind) c.node-whole.ensures in
    subst (Joining c.args.part.records.now c.args.part.at) (sym c.from_residual.ensures)
    (nothing_joins c.args.part.records.now c.args.part.at
    (pairs_here _ _ _ _ _ _ _ _ None whole c.parts.ensures.records c.parts.ensures.count c.parts.ensures.first c.in_err-x.ensures.pair))

pub returns-in_err-head : goal.returns-in_err-head
returns-in_err-head c =
    let whole = ap (λ (x : Node). x.kind) c.node-whole.ensures in
    let records = c.parts.ensures.records in
    let lie = c.in_ok-x.ensures.lie in
    subst (Joining c.args.part.records.now c.args.part.at) (sym c.from_residual-in_err-head.ensures)
    (never_apart c.args.part.records.now c.args.part.at c.in_ok-x.x.at c.in_ok-x.y.at c.requires.gathers
    (pairs_here _ _ _ _ _ _ _ _ (Some (c.in_ok-x.x.at, c.in_ok-x.y.at)) whole records c.parts.ensures.count c.parts.ensures.first c.in_ok-x.ensures.pair) _
    (outcome_here _ _ _ _ _ c.in_ok-x.x.at c.in_ok-x.y.at _ whole (lie.0 ∙ records) (lie.1 ∙ records) c.pair_outcome.ensures) c.in_err-head.was)

pub returns-in-Joined : goal.returns-in-Joined
returns-in-Joined c =
    let whole = ap (λ (x : Node). x.kind) c.node-whole.ensures in
    let records = c.parts.ensures.records in
    let lie = c.in_ok-x.ensures.lie in
    join_change c.args.part.records.now c.args.part.at c.in_ok-x.x.at c.in_ok-x.y.at c.requires.gathers
    (pairs_here _ _ _ _ _ _ _ _ (Some (c.in_ok-x.x.at, c.in_ok-x.y.at)) whole records c.parts.ensures.count c.parts.ensures.first c.in_ok-x.ensures.pair) _
    (outcome_here _ _ _ _ _ c.in_ok-x.x.at c.in_ok-x.y.at _ whole (lie.0 ∙ records) (lie.1 ∙ records) c.in_ok-head.ensures)
    c.in-Joined.head (ap Some c.in-Joined.is)

pub returns-in-Dead : goal.returns-in-Dead
returns-in-Dead c =
    let whole = ap (λ (x : Node). x.kind) c.node-whole.ensures in
    let records = c.parts.ensures.records in
    let lie = c.in_ok-x.ensures.lie in
    clear_change c.args.part.records.now c.args.part.at c.in_ok-x.x.at c.in_ok-x.y.at c.requires.gathers
    (pairs_here _ _ _ _ _ _ _ _ (Some (c.in_ok-x.x.at, c.in_ok-x.y.at)) whole records c.parts.ensures.count c.parts.ensures.first c.in_ok-x.ensures.pair) _
    (outcome_here _ _ _ _ _ c.in_ok-x.x.at c.in_ok-x.y.at _ whole (lie.0 ∙ records) (lie.1 ∙ records) c.in_ok-head.ensures)
    (ap Some c.in-Dead.is)
