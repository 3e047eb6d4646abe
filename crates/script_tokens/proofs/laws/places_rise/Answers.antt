use Rattle.script_tokens.proofs.Places.{places_rise}
use Rattle.script_tokens.proofs.laws.places_rise.Goals as goal

pub returns : goal.returns
returns c = places_rise
