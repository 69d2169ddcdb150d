use Rattle.std.proofs.Common.{rules}
use Rattle.walk.proofs.Knowing.{few}
use Rattle.walk.proofs.Row.{some_inside, some_next}
use Rattle.walk.proofs.walk.Walk.after.Goals as goal

pub offset_bounds-self-i : goal.offset_bounds-self-i
offset_bounds-self-i c = let h = some_inside c.args.self.now c.args.i c.requires in let f = few c.args.self.now in search rules

pub listed : goal.listed
listed c = let h = some_inside c.args.self.now c.args.i c.requires in let f = few c.args.self.now in search rules

pub bounds-self-i : goal.bounds-self-i
bounds-self-i c = let h = some_inside c.args.self.now c.args.i c.requires in let f = few c.args.self.now in search rules

pub returns : goal.returns
returns c = some_next c.args.self.now c.args.i c.requires _
