use Rattle.multi_machine.proofs.Lockstep.{stays}
use Rattle.multi_machine.proofs.law.members_stay_in_lockstep.Goals as goal

pub returns : goal.returns
returns c = stays
