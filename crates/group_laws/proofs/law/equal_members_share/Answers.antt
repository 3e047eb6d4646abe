use Rattle.group_laws.proofs.Shared.{members_share}
use Rattle.group_laws.proofs.law.equal_members_share.Goals as goal

pub returns : goal.returns
returns c = members_share
