use Rattle.std.proofs.Common.{sym, ap, ◌∙◌, drop, get_or, suc, drop-cons}
use Rattle.script_tokens.specs.Tokens.{value_from}
use Rattle.script_tokens.proofs.Bytes.{too_large, digit_small}
use Rattle.script_tokens.proofs.lexeme.value_of.Goals as goal

pub returns-then-value-digit : goal.returns-then-value-digit
returns-then-value-digit c =
    let s = c.args.digits.now in
    let i = c.loop-digit.digit-index in
    sym (too_large s (drop (suc i) s) c.loop-digit.value (get_or s i 0)
    (c.loop-digit.invariant.told ∙ ap (value_from c.loop-digit.value) (drop-cons s i 0 c.loop-digit-test.true))
    (digit_small (get_or s i 0) (c.requires i 0 c.loop-digit-test.true)) c.if-value-digit.true)
