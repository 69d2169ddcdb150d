use Rattle.std.proofs.Common.{ℕ, List, sym, ap, ap₂, ◌∙◌, subst}
use Rattle.query.specs.declared.node.Node.{Node}
use Rattle.query.specs.Stands.{at}
use Rattle.rules.specs.Applies.{repeats}
use Rattle.tidy.specs.Changes.{Alone, nested_become}
use Rattle.tidy.proofs.Changing.{nested_change, no_inner}
use Rattle.tidy.proofs.rule.repeat_change.Goals as goal

pub returns-in_err-inner : goal.returns-in_err-inner
returns-in_err-inner c =
    no_inner c.args.part.records.now c.args.part.at c.requires.strict (sym c.parts.ensures.count ∙ c.in_err-inner.ensures) c.from_residual.result

pub returns : goal.returns
returns c =
    let here = c.in_ok-inner.ensures.0 ∙ ap₂ (λ (ns : List Node) (i : ℕ). (ns, i)) c.parts.ensures.records c.parts.ensures.first in
    nested_change c.args.part.records.now c.args.part.at c.is_repeat-repeat.result c.stands_alone.result c.nested.result c.requires.strict
    (c.is_repeat-repeat.ensures ∙ ap (λ (x : Node). repeats x.kind) c.node.ensures ∙ ap (λ (p : List Node × ℕ). repeats (at p.0 p.1).kind) here)
    (subst (λ (p : List Node × ℕ). Alone p.0 p.1 c.stands_alone.result) here c.stands_alone.ensures)
    (c.nested.ensures ∙ ap (λ (x : Node). nested_become x.number c.is_repeat-repeat.result c.stands_alone.result) c.node-2.ensures)
