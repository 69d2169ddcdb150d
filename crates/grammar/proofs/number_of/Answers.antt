use Rattle.std.proofs.Common.{◌+◌, drop, sym, refl, ap, ◌∙◌, arith}
use Rattle.grammar.specs.Names.{natural_after}
use Rattle.grammar.proofs.Naming.{zero_extra, over, kept, too_large, digit_more, is_small}
use Rattle.grammar.proofs.number_of.Goals as goal

pub returns-then-extra_zero : goal.returns-then-extra_zero
returns-then-extra_zero c = zero_extra c.args.digits.now c.if-extra_zero.ensures

pub loop-digit-init : goal.loop-digit-init
loop-digit-init c = (refl, omega arith)

pub returns-in_err-number : goal.returns-in_err-number
returns-in_err-number c =
    c.from_residual.ensures
    ∙ too_large c.loop-digit.number c.loop-digit.digit-index c.args.digits.now c.loop-digit-test.true c.loop-digit.invariant.0 (over _ c.in_err-number.ensures)

pub loop-digit-preserved : goal.loop-digit-preserved
loop-digit-preserved c =
    let k = kept _ _ c.in_ok-number.ensures in (
      ap (λ n. natural_after n (drop (c.loop-digit.digit-index + 1) c.args.digits.now)) k.0
          ∙ sym (digit_more c.loop-digit.number c.loop-digit.digit-index c.args.digits.now c.loop-digit-test.true)
          ∙ c.loop-digit.invariant.0,
      k.1,
    )

pub returns : goal.returns
returns c =
    is_small c.loop-digit.number c.loop-digit.digit-index c.args.digits.now c.if-extra_zero.ensures (omega arith) c.loop-digit.invariant.0
    c.loop-digit.invariant.1
