use Rattle.std.proofs.Common.{rules}
use Rattle.script_tokens.proofs.WordTests.{same_spelling}
use Rattle.script_tokens.proofs.scan.Tokens.stands.Goals as goal

pub returns-in-Token-Word-default : goal.returns-in-Token-Word-default
returns-in-Token-Word-default c =
    rw (c.eq.ensures, same_spelling c.in-Token-Word-default.here c.args.word) (search rules)
