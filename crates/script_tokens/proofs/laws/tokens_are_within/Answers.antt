use Rattle.script_tokens.proofs.Places.{tokens_are_within}
use Rattle.script_tokens.proofs.laws.tokens_are_within.Goals as goal

pub returns : goal.returns
returns c = tokens_are_within
