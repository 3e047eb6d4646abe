use Rattle.script_tokens.proofs.Spelled.{each_is_spelled}
use Rattle.script_tokens.proofs.laws.each_token_is_spelled.Goals as goal

pub returns : goal.returns
returns c = each_is_spelled
