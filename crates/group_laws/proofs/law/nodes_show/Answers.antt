use Rattle.group_laws.proofs.NodesPart.{nodes_show}
use Rattle.group_laws.proofs.law.nodes_show.Goals as goal

pub returns : goal.returns
returns c = nodes_show
