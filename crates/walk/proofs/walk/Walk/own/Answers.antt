use Rattle.std.proofs.Common.{arith, rules}
use Rattle.query.specs.declared.node.Role.TheVariants.{Shape}
use Rattle.walk.proofs.Walking.{opened}
use Rattle.walk.proofs.Knowing.{few, own_is}
use Rattle.walk.proofs.walk.Walk.own.Goals as goal

pub offset_bounds-self-i : goal.offset_bounds-self-i
offset_bounds-self-i c = let o = opened 16 c.args.self.now.records.now Shape c.args.i (omega arith) c.requires.stands in let f = few c.args.self.now in search rules

pub listed : goal.listed
listed c = let o = opened 16 c.args.self.now.records.now Shape c.args.i (omega arith) c.requires.stands in let f = few c.args.self.now in search rules

pub bounds-self-i : goal.bounds-self-i
bounds-self-i c = let o = opened 16 c.args.self.now.records.now Shape c.args.i (omega arith) c.requires.stands in let f = few c.args.self.now in search rules

pub returns : goal.returns
returns c = own_is c.args.self.now c.args.i c.requires.reached c.requires.stands _
