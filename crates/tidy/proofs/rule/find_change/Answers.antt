use Rattle.std.proofs.Common.{sym, ap, ◌∙◌}
use Rattle.query.specs.declared.node.Node.{Node}
use Rattle.rules.specs.Applies.{gathers}
use Rattle.tidy.specs.Changes.{strict}
use Rattle.tidy.proofs.Changing.{other_change}
use Rattle.tidy.proofs.rule.find_change.Goals as goal

pub returns : goal.returns
returns c =
    other_change c.args.part.records.now c.args.part.at (sym (c.if-is_gathering.ensures ∙ ap (λ (x : Node). gathers x.kind) c.node-kind.ensures))
    (sym (c.if-is_strict.ensures ∙ ap (λ (x : Node). strict x.kind) c.node-kind.ensures))
