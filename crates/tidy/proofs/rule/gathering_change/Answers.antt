use Rattle.std.proofs.Common.{ℕ, List, Bool, ◌&&◌, Some, None, sym, refl, ap, ap₂, ◌∙◌}
use Rattle.std.specs.Option.{option_map}
use Rattle.query.specs.declared.node.Kind.TheVariants.{Concat}
use Rattle.query.specs.declared.node.Node.{Node}
use Rattle.query.specs.Kinds.{same_kind}
use Rattle.query.specs.Stands.{at}
use Rattle.tidy.specs.declared.wanted.Wanted.TheVariants.{Like, Empty}
use Rattle.tidy.specs.Rows.{place}
use Rattle.tidy.proofs.Finding.{part_first, found_some}
use Rattle.tidy.proofs.Changing.{single_change, unnest_change, cleared, not_cleared, joins_change}
use Rattle.tidy.proofs.rule.gathering_change.Goals as goal

pub returns-then-node-eq1 : goal.returns-then-node-eq1
returns-then-node-eq1 c =
    single_change c.args.part.records.now c.args.part.at c.requires.gathers (sym (ap (λ (x : Node). x.parts) c.node-node.ensures) ∙ c.if-node-eq1.true)

pub returns-in-Some : goal.returns-in-Some
returns-in-Some c =
    unnest_change c.args.part.records.now c.args.part.at c.in-Some.inner.at c.requires.gathers
    (part_first (Like (at c.args.part.records.now c.args.part.at).kind) _ _ _ _ _ _ _ (Some (place c.in-Some.inner))
    (ap (λ (x : Node). Like x.kind) c.node-node.ensures) c.parts.ensures.records c.parts.ensures.count c.parts.ensures.first c.in-Some.ensures)

pub returns-then-clears : goal.returns-then-clears
returns-then-clears c =
    let o = option_map place c.find_part-empty.result in
    cleared c.args.part.records.now c.args.part.at (option_map (λ (p : List Node × ℕ). p.1) o)
    (c.if-clears.ensures
    ∙ ap₂ (λ (x : Node) (t : Bool). same_kind x.kind Concat && t) c.node-node.ensures (sym (found_some c.find_part-empty.result)))
    (part_first Empty _ _ _ _ _ _ _ o refl c.parts-2.ensures.records c.parts-2.ensures.count c.parts-2.ensures.first c.find_part-empty.ensures)

pub returns : goal.returns
returns c =
    let o = option_map place c.find_part-empty.result in
    joins_change c.args.part.records.now c.args.part.at c.joining_change.result c.requires.gathers
    (λ e. c.if-node-eq1.false (ap (λ (x : Node). x.parts) c.node-node.ensures ∙ e))
    (part_first (Like (at c.args.part.records.now c.args.part.at).kind) _ _ _ _ _ _ _ None
    (ap (λ (x : Node). Like x.kind) c.node-node.ensures) c.parts.ensures.records c.parts.ensures.count c.parts.ensures.first c.in_default.ensures)
    (not_cleared c.args.part.records.now c.args.part.at (option_map (λ (p : List Node × ℕ). p.1) o)
    (c.if-clears.ensures
    ∙ ap₂ (λ (x : Node) (t : Bool). same_kind x.kind Concat && t) c.node-node.ensures (sym (found_some c.find_part-empty.result)))
    (part_first Empty _ _ _ _ _ _ _ o refl c.parts-2.ensures.records c.parts-2.ensures.count c.parts-2.ensures.first c.find_part-empty.ensures))
    c.joining_change.ensures
