use Rattle.script_tokens.specs.declared.lexeme.Class.TheVariants.{Digit}
use Rattle.script_tokens.proofs.Bytes.{span_all}
use Rattle.script_tokens.proofs.lexeme.front.Goals as goal

pub number-requires-clause-digits : goal.number-requires-clause-digits
number-requires-clause-digits c = rw c.span-then-is_digit.ensures.is (λ k d h. span_all Digit c.args.bytes.now k d h)
