use Rattle.multi_machine.proofs.Lockstep.{tells}
use Rattle.multi_machine.proofs.law.coming_to_an_end_tells.Goals as goal

pub returns : goal.returns
returns c = tells
