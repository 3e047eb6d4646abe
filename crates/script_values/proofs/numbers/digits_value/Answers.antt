use Rattle.std.proofs.Common.{arith}
use Rattle.std.proofs.lemmas.List.{at_drop_all}
use Rattle.script_meaning.specs.Operators.{digits_value}
use Rattle.script_values.proofs.Digits.{digits_above}
use Rattle.script_values.proofs.numbers.digits_value.Goals as goal

pub returns-in_err-checked_mul : goal.returns-in_err-checked_mul
returns-in_err-checked_mul c =
    let above = digits_above c.loop-digit.value c.args.digits.now c.loop-digit.digit-index c.loop-digit-test.true in
    rw c.from_residual.ensures (λ h. c.in_err-checked_mul.ensures (omega (arith, above, c.loop-digit.invariant.told)))

pub returns-in_err-value : goal.returns-in_err-value
returns-in_err-value c =
    let above = digits_above c.loop-digit.value c.args.digits.now c.loop-digit.digit-index c.loop-digit-test.true in
    rw c.from_residual-in_err-value.ensures (λ h. c.in_err-value.ensures (omega (arith, above, c.loop-digit.invariant.told, c.in_ok-checked_mul.ensures, c.saturating_sub.ensures, c.from.ensures)))

pub returns : goal.returns
returns c =
    let told = at_drop_all (digits_value c.loop-digit.value) c.args.digits.now c.loop-digit.digit-index c.loop-digit-test.false in
    let small = c.loop-digit.invariant.small in
    (omega (arith, told, c.loop-digit.invariant.told), omega (arith, told, c.loop-digit.invariant.told))
