use Rattle.precedence_graph.proofs.Greatest as greatest
use Rattle.precedence_graph.proofs.law.since_rises.Goals as goal

pub returns : goal.returns
returns c = greatest.since_rises
