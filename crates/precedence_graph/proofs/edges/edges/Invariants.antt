use Rattle.precedence_graph.proofs.Walked.{IsWalked}
use Rattle.precedence_graph.proofs.edges.edges.Given as goal

abbrev pub invariant-loop-place : goal.invariant-loop-place
invariant-loop-place l = IsWalked l.trace l.place l.edges.items l.starts.items l.frontier
