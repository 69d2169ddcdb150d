use Rattle.std.proofs.Common.{◌<◌, length, arith}
use Rattle.rules.proofs.Firsts.{part_inside}
use Rattle.tidy.proofs.part.Part.node.Goals as goal

pub offset_bounds-self-self : goal.offset_bounds-self-self
offset_bounds-self-self c =
    let h : c.args.self.at < length c.args.self.records.now = part_inside c.args.self.records.now c.args.self.at c.args.self.stands in
    omega arith

pub bounds-self-self : goal.bounds-self-self
bounds-self-self c = part_inside c.args.self.records.now c.args.self.at c.args.self.stands
