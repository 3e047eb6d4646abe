use Rattle.std.proofs.Common.{sym, ◌∙◌}
use Rattle.script_tokens.proofs.Scans.{token_on}
use Rattle.script_tokens.proofs.scan.Tokens.from_token.Goals as goal

pub returns-in-Some : goal.returns-in-Some
returns-in-Some c =
    sym (token_on c.args.rest.now c.args.at c.args.depth c.in-Some.depth c.args.len c.args.shape c.requires.in_front
    (sym c.open_behind.ensures.is ∙ c.in-Some.is) c.requires.some c.requires.within)
