use Rattle.std.proofs.Common.{◌≡◌, ◌<◌, ◌^◌, drop}
use Rattle.script_meaning.specs.Operators.{digits_value}
use Rattle.script_values.proofs.numbers.digits_value.Given as goal

abbrev pub invariant-loop-digit : goal.invariant-loop-digit
invariant-loop-digit l = record {
  small : l.value < 2 ^ 64;
  told : digits_value l.value (drop l.digit-index l.digits) ≡ digits_value 0 l.digits;
}
