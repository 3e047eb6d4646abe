use Rattle.script_asks.proofs.Wanted.{fits}
use Rattle.script_asks.proofs.law.asks_for_what_fits.Goals as goal

pub returns : goal.returns
returns c = λ program request answers op valid short e. fits program request answers op valid short e
