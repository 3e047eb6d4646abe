use Rattle.std.proofs.Common.{◌≡◌, ◌++◌}
use Rattle.precedence_graph.specs.EdgeLists.{edges_from}
use Rattle.precedence_graph.proofs.edges.push_edges.Given as goal

abbrev pub invariant-loop-before : goal.invariant-loop-before
invariant-loop-before l = l.edges.items ++ edges_from l.before-iterator l.to ≡ l.initial.edges.items ++ edges_from l.frontier.keys l.to
