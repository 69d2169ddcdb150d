use Rattle.steps.specs.Meaning.{steps_of}
use Rattle.std.proofs.Common.{rules}
use Rattle.wholes.proofs.Counts.{symbol_shows}
use Rattle.wholes.proofs.symbols.symbol.Goals as goal

pub returns : goal.returns
returns c =
    symbol_shows (steps_of c.args.steps.now) c.args.number c.args.view c.lowest-a.result c.args.to c.loop-a.a c.loop-a.out
    c.lowest-a.ensures (search rules) c.loop-a.invariant
