use Rattle.state_file.proofs.ReadOneWay.{one_state, one_fault, state_or_fault}
use Rattle.state_file.proofs.law.one_way.Goals as goal

pub returns : goal.returns
returns c = record { states = one_state; faults = one_fault; apart = state_or_fault }
