use Rattle.precedence_graph.proofs.Ascending as ascending
use Rattle.precedence_graph.proofs.law.edges_are_one.Goals as goal

pub returns : goal.returns
returns c = ascending.edges_are_one
