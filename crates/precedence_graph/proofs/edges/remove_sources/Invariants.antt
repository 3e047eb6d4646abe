use Rattle.std.proofs.Common.{◌≡◌, ℕ, not, ◌&&◌, take}
use Rattle.std.specs.BTreeSet.{contains}
use Rattle.std.specs.Ordering.{nat_cmp}
use Rattle.precedence_graph.specs.EdgeLists.{is_source}
use Rattle.precedence_graph.proofs.edges.remove_sources.Given as goal

abbrev pub invariant-loop-before : goal.invariant-loop-before
invariant-loop-before l = (a : ℕ) → contains nat_cmp l.frontier a ≡ (contains nat_cmp l.initial.frontier a && not (is_source (take l.before-index l.edges) a))
