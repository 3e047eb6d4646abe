use Rattle.std.proofs.Common.{refl}
use Rattle.audit_order.proofs.Built.{operation_node}
use Rattle.audit_order.proofs.linking.Sound.operation.Goals as goal

pub returns : goal.returns
returns c =
    let s = c.args.self.now in
    operation_node s.trace.now s.report.now c.args.rid c.args.number _ (c.links-log_before.ensures _ refl refl) refl c.requires.operation
