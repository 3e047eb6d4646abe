use Rattle.std.proofs.Common.{false, None, refl, sym, subst}
use Rattle.event_order.specs.declared.graph.Node.{Node as GraphNode}
use Rattle.audit_order.specs.Built.{IsNodeOf}
use Rattle.audit_order.proofs.Built.{end_linked}
use Rattle.audit_order.proofs.linking.Sound.graph_node.Goals as goal

pub returns-in-End : goal.returns-in-End
returns-in-End c =
    let s = c.args.self.now in
    let v : GraphNode = record { is_arrival = false; log_before = None; log_after = None; at = 0; since = 0 } in
    subst (λ n. IsNodeOf s.trace.now s.report.now n v) (sym c.in-End.is) (end_linked s.trace.now s.report.now c.in-End.field-0 v refl refl refl)
