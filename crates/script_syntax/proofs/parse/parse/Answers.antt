use Rattle.std.proofs.Common.{◌∙◌, sym}
use Rattle.std.proofs.lemmas.Result.{err_from_is_err_and}
use Rattle.script_syntax.proofs.Parses.{accepted, refused}
use Rattle.script_syntax.proofs.parse.parse.Goals as goal

pub returns-in_err-declarations : goal.returns-in_err-declarations
returns-in_err-declarations c =
    let p = err_from_is_err_and c.from_residual.result c.from_residual.ensures.1 in
    rw (p.1, p.2) (refused c.args.bytes.now c.new-tokens.result c.declarations.new.tokens c.in_err-declarations.field-0.0 c.new-tokens.ensures c.in_err-declarations.ensures)

pub returns-in-Some : goal.returns-in-Some
returns-in-Some c = accepted c.args.bytes.now c.new-tokens.result c.declarations.new.tokens c.in_ok-declarations.declarations c.in-Some.end c.whole.result c.new-tokens.ensures c.in_ok-declarations.ensures (sym c.end.ensures ∙ c.in-Some.is) c.whole.ensures
