use Rattle.std.proofs.Common.{sym, ◌∙◌, arith}
use Rattle.std.proofs.lemmas.Bool.{le-ltb}
use Rattle.word.proofs.Bits.{has_past}
use Rattle.word.proofs.carries.Goals as goal

pub returns-else-symbol-lt32 : goal.returns-else-symbol-lt32
returns-else-symbol-lt32 c =
    le-ltb c.args.symbol 32 (omega arith) ∙ sym (has_past 32 c.args.word c.args.symbol (omega arith) (omega arith))
