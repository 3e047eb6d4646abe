use Rattle.trace_format.proofs.OneFault.{one_fault}
use Rattle.trace_format.proofs.balance.fault_is_one.Goals as goal

pub returns : goal.returns
returns c = one_fault
