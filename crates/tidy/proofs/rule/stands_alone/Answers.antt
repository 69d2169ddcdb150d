use Rattle.std.proofs.Common.{not, ◌&&◌, ltb, ap, ◌∙◌}
use Rattle.query.specs.declared.node.Node.{Node}
use Rattle.tidy.specs.Changes.{strict}
use Rattle.tidy.proofs.Changing.{alone_here}
use Rattle.tidy.proofs.rule.stands_alone.Goals as goal

pub returns : goal.returns
returns c =
    alone_here c.args.part.records.now c.args.part.at c.has_window.result c.is_alone.result c.has_window.ensures
    (c.is_alone.ensures ∙ ap (λ (x : Node). strict x.kind && (ltb 0 x.number && not c.has_window.result)) c.node.ensures)
