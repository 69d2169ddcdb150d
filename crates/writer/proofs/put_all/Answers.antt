use Rattle.std.proofs.Common.{refl, arith}
use Rattle.query.specs.Stands.{blank}
use Rattle.writer.proofs.Pens.{laying_more}
use Rattle.writer.proofs.put_all.Goals as goal

pub loop-node-preserved : goal.loop-node-preserved
loop-node-preserved c =
    laying_more blank c.loop-node.invariant c.write.ensures c.loop-node-test.true (omega arith) c.args.alphabet.now.named refl c.requires.room
