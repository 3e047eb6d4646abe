use Rattle.script_nodes.proofs.Nodes.{means_nodes}
use Rattle.script_nodes.proofs.law.nodes_mean_steps.Goals as goal

pub returns : goal.returns
returns c = means_nodes
