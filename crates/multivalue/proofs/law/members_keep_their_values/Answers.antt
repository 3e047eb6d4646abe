use Rattle.multivalue.proofs.Members.{holds_all}
use Rattle.multivalue.proofs.law.members_keep_their_values.Goals as goal

pub returns : goal.returns
returns c = holds_all
