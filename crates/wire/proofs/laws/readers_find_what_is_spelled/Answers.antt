use Rattle.wire.proofs.ToldApart.{all_found}
use Rattle.wire.proofs.laws.readers_find_what_is_spelled.Goals as goal

pub returns : goal.returns
returns c = all_found
