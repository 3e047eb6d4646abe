use Rattle.precedence_graph.proofs.Greatest as greatest
use Rattle.precedence_graph.proofs.law.since_is_one.Goals as goal

pub returns : goal.returns
returns c = greatest.since_is_one
