use Rattle.audit_order.proofs.Built.{shows}
use Rattle.audit_order.proofs.linking.Sound.graph.Goals as goal

pub returns : goal.returns
returns c = shows c.args.self.now.trace.now c.args.self.now.report.now _ c.in_ok-nodes.ensures c.in_ok-trace.ensures
