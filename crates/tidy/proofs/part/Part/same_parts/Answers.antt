use Rattle.std.proofs.Common.{◌≡◌, ◌∙◌, sym, ap, ap₂, ℕ, List, ◌&&◌, ◌==◌, take, rules}
use Rattle.std.specs.List.{list_all, zip}
use Rattle.std.proofs.lemmas.Bool.{eq-eqb}
use Rattle.query.specs.declared.node.Node.{Node}
use Rattle.query.specs.Stands.{at}
use Rattle.rules.specs.Places.{same_record, stand_first, size_first, inner, same_inner}
use Rattle.rules.proofs.Firsts.{parts_first, same_inner_is}
use Rattle.tidy.proofs.part.Part.same_parts.Goals as goal

pub same_first-requires : goal.same_first-requires
same_first-requires c = record {
  stand =
      ap₂ (λ (x : Node) (ns : List Node). stand_first x.parts ns) c.node-parts.ensures c.behind.ensures
      ∙ parts_first c.args.self.records.now c.args.self.at c.args.self.stands;
}

pub returns-then-parts-node-clause-inner : goal.returns-then-parts-node-clause-inner
returns-then-parts-node-clause-inner c =
    let mine = ap (λ (x : Node). x.parts) c.node-parts.ensures in
    let theirs : c.node-parts.result.parts ≡ (at c.args.other.records.now c.args.other.at).parts = c.if-parts-node.true ∙ ap (λ (x : Node). x.parts) c.node.ensures in
    let same : (at c.args.self.records.now c.args.self.at).parts ≡ (at c.args.other.records.now c.args.other.at).parts = sym mine ∙ theirs in
    let alike = list_all (λ (p : Node × Node). same_record p.0 p.1) (zip (inner c.args.self.records.now c.args.self.at) (inner c.args.other.records.now c.args.other.at)) in
    c.same_first.ensures
    ∙ ap₂ (λ (xs ys : List Node). list_all (λ (p : Node × Node). same_record p.0 p.1) (zip xs ys))
    (ap₂ (λ (m : ℕ) (ns : List Node). take (size_first m ns) ns) mine c.behind.ensures)
    (ap₂ (λ (m : ℕ) (ns : List Node). take (size_first m ns) ns) theirs c.behind-then-parts-node.ensures)
    ∙ ap (λ t. t && alike) (sym (eq-eqb (at c.args.self.records.now c.args.self.at).parts (at c.args.other.records.now c.args.other.at).parts same))

pub returns-then-parts-node-clause-alike : goal.returns-then-parts-node-clause-alike
returns-then-parts-node-clause-alike c = λ q r rest last here there.
    returns-then-parts-node-clause-inner c ∙ same_inner_is c.args.self.records.now c.args.other.records.now c.args.self.at c.args.other.at q r rest last here there

pub returns-else-parts-node-clause-alike : goal.returns-else-parts-node-clause-alike
returns-else-parts-node-clause-alike c = λ q r rest last here there.
    let unlike : (c.node-parts.result.parts == c.node.result.parts) ≡ same_inner c.args.self.records.now c.args.self.at c.args.other.records.now c.args.other.at = search rules in
    unlike ∙ same_inner_is c.args.self.records.now c.args.other.records.now c.args.self.at c.args.other.at q r rest last here there
