use Rattle.script_nodes.proofs.ValueFaults.{nodes_fail_by_values}
use Rattle.script_nodes.proofs.law.nodes_fail_by_values.Goals as goal

pub returns : goal.returns
returns c = nodes_fail_by_values
