use Rattle.std.proofs.Common.{arith}
use Rattle.tidy.proofs.Promised.{cut_ready, settle_ready, answers_ok}
use Rattle.tidy.proofs.tidy_first.Goals as goal

pub cut-requires : goal.cut-requires
cut-requires c = record { order = cut_ready c.args.count c.args.sheet.now c.requires.ready; inside = omega arith }

pub settle-requires : goal.settle-requires
settle-requires c = record { kept = settle_ready c.args.count c.args.sheet.now c.cut.new.sheet c.requires.ready c.cut.ensures }

pub returns : goal.returns
returns c =
    answers_ok c.args.count c.args.sheet.now c.cut.new.sheet c.requires.ready c.cut.ensures c.settle.new.sheet c.settle.result
    c.settle.ensures
