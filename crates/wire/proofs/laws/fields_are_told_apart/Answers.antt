use Rattle.wire.proofs.ToldApart.{all_apart}
use Rattle.wire.proofs.laws.fields_are_told_apart.Goals as goal

pub returns : goal.returns
returns c = all_apart
