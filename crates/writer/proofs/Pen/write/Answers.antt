use Rattle.std.proofs.Common.{length, ap, arith}
use Rattle.alphabet.specs.Symbols.{names_of}
use Rattle.writer.specs.Laying.{open_now}
use Rattle.writer.proofs.Pens.{gap_short, record_short, begun_long, pushed_short, one_record}
use Rattle.writer.proofs.Pen.write.Goals as goal

pub shut-requires : goal.shut-requires
shut-requires c =
    let x = c.args.node in
    let ms = open_now c.args.self.now in
    omega (arith, gap_short ms, record_short (names_of c.args.alphabet.now) x.kind x.number c.args.alphabet.now.named, pushed_short x (open_now c.put_record.new.self), begun_long ms, ap length c.begin.ensures.stack, ap length c.put_record.ensures.stack, ap length c.enter.ensures.stack, c.begin.ensures.wrote.ends, c.put_record.ensures.wrote.ends, c.enter.ensures.wrote.ends)

pub returns : goal.returns
returns c = one_record (names_of c.args.alphabet.now) c.args.node c.begin.ensures c.put_record.ensures c.enter.ensures c.shut.ensures c.args.alphabet.now.named c.requires.room
