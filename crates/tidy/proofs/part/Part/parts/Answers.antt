use Rattle.std.proofs.Common.{◌+◌, ◌<◌, length, drop, ap, ◌∙◌, arith}
use Rattle.query.specs.declared.node.Node.{Node}
use Rattle.rules.specs.Places.{stand_first}
use Rattle.rules.proofs.Firsts.{part_inside, parts_first}
use Rattle.tidy.proofs.part.Part.parts.Goals as goal

pub overflow_add-result : goal.overflow_add-result
overflow_add-result c =
    let h : c.args.self.at < length c.args.self.records.now = part_inside c.args.self.records.now c.args.self.at c.args.self.stands in
    omega arith

pub invariant_of-result : goal.invariant_of-result
invariant_of-result c = record {
  stand =
      ap (λ (x : Node). stand_first x.parts (drop (c.args.self.at + 1) c.args.self.records.now)) c.node.ensures
      ∙ parts_first c.args.self.records.now c.args.self.at c.args.self.stands;
}
