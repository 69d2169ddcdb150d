use Rattle.std.proofs.Common.{◌+◌, arith}
use Rattle.std.proofs.lemmas.List.{take_rest}
use Rattle.rules.proofs.Firsts.{part_inside}
use Rattle.tidy.proofs.part.Part.behind.Goals as goal

pub overflow_add-result : goal.overflow_add-result
overflow_add-result c = let h = part_inside c.args.self.records.now c.args.self.at c.args.self.stands in omega arith

pub offset_bounds-self-self : goal.offset_bounds-self-self
offset_bounds-self-self c = let h = part_inside c.args.self.records.now c.args.self.at c.args.self.stands in omega arith

pub slice_bounds-result-count : goal.slice_bounds-result-count
slice_bounds-result-count c = let h = part_inside c.args.self.records.now c.args.self.at c.args.self.stands in omega arith

pub slice_bounds-result-start : goal.slice_bounds-result-start
slice_bounds-result-start c = let h = part_inside c.args.self.records.now c.args.self.at c.args.self.stands in omega arith

pub returns : goal.returns
returns c = take_rest c.args.self.records.now (c.args.self.at + 1)
