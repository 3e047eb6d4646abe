use Rattle.std.proofs.Common.{◌≡◌, ◌≤◌, drop}
use Rattle.script_tokens.specs.Tokens.{value_from}
use Rattle.script_tokens.proofs.lexeme.value_of.Given as goal

abbrev pub invariant-loop-digit : goal.invariant-loop-digit
invariant-loop-digit l = record {
  small : l.value ≤ 9223372036854775807;
  told : value_from 0 l.digits ≡ value_from l.value (drop l.digit-index l.digits);
}
