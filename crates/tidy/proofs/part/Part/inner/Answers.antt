use Rattle.std.proofs.Common.{◌≡◌, ◌+◌, ◌-◌, ℕ, take, drop, ap, arith}
use Rattle.query.specs.Stands.{at}
use Rattle.rules.specs.Places.{size_first}
use Rattle.rules.proofs.Firsts.{part_inside, part_size, part_room}
use Rattle.tidy.proofs.part.Part.inner.Goals as goal

pub overflow_add-result : goal.overflow_add-result
overflow_add-result c = let h = part_inside c.args.self.records.now c.args.self.at c.args.self.stands in omega arith

pub offset_bounds-self-self : goal.offset_bounds-self-self
offset_bounds-self-self c = let h = part_inside c.args.self.records.now c.args.self.at c.args.self.stands in omega arith

pub slice_bounds-result-count : goal.slice_bounds-result-count
slice_bounds-result-count c = let h = part_room c.args.self.records.now c.args.self.at c.args.self.stands in omega arith

pub slice_bounds-result-start : goal.slice_bounds-result-start
slice_bounds-result-start c = let h = part_room c.args.self.records.now c.args.self.at c.args.self.stands in omega arith

pub slice_bounds-result-end : goal.slice_bounds-result-end
slice_bounds-result-end c = let h = part_room c.args.self.records.now c.args.self.at c.args.self.stands in omega arith

pub returns : goal.returns
returns c =
    let s = part_size c.args.self.records.now c.args.self.at c.args.self.stands in
    let e : c.end.result - (c.args.self.at + 1) ≡ size_first (at c.args.self.records.now c.args.self.at).parts (drop (c.args.self.at + 1) c.args.self.records.now) = omega arith in
    ap (λ (k : ℕ). take k (drop (c.args.self.at + 1) c.args.self.records.now)) e
