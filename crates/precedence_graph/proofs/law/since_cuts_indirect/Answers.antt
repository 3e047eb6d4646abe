use Rattle.precedence_graph.proofs.Greatest.{since_cuts, since_kept}
use Rattle.precedence_graph.proofs.law.since_cuts_indirect.Goals as goal

pub returns : goal.returns
returns c = λ trace left right since is. (since_cuts trace left right since is, since_kept trace left right since is)
