use Rattle.std.proofs.Common.{◌≡◌, ◌<◌, ℕ, length, Some}
use Rattle.basis.specs.Lists.{nth}
use Rattle.event_order.specs.declared.graph.Node.{Node as GraphNode}
use Rattle.audit_meaning.specs.Nodes.{nodes}
use Rattle.audit_meaning.specs.declared.node.Node.{Node}
use Rattle.audit_order.specs.Built.{IsNodeOf}
use Rattle.audit_order.proofs.linking.Sound.graph_nodes.Given as goal

abbrev pub invariant-loop-name : goal.invariant-loop-name
invariant-loop-name l = record {
  count : length l.made.items ≡ l.name-index;
  each : (i : ℕ) → i < l.name-index → (v : GraphNode) × (nth l.made.items i ≡ Some v)
      × ((n : Node) → nth (nodes l.self.trace.now l.self.report.now) i ≡ Some n
      → IsNodeOf l.self.trace.now l.self.report.now n v);
}
