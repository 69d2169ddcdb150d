use Rattle.std.proofs.Common.{sym}
use Rattle.alphabet.proofs.Fields.{layout_decides}
use Rattle.alphabet.proofs.layout.Layout.of.Goals as goal

pub invariant_of-result : goal.invariant_of-result
invariant_of-result c = record { laid = (layout_decides c.args.sheet.now).0 (sym c.if-is_laid_out.ensures) }
