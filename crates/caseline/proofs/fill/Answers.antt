use Rattle.alphabet.specs.Symbols.{bounds_of}
use Rattle.caseline.proofs.Filling.{filled_more, filled_all}
use Rattle.caseline.proofs.fill.Goals as goal

pub loop-i-preserved : goal.loop-i-preserved
loop-i-preserved g c =
    filled_more (g.B.RunBook.words c.loop-i.book) (g.B.RunBook.words c.add.new.self) (bounds_of c.new-alphabet.result)
    c.price.result.hundredths c.price-in-loop-i.result.hundredths c.word.result c.loop-i.i c.loop-i-test.true
    c.loop-i.invariant c.new-alphabet.ensures.bounds c.price.ensures c.price-in-loop-i.ensures c.word.ensures c.add.ensures.after

pub returns : goal.returns
returns g c = filled_all (g.B.RunBook.words c.loop-i.book) c.loop-i.i c.loop-i-test.false c.loop-i.invariant
