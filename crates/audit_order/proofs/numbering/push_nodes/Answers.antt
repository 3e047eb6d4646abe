use Rattle.std.proofs.Common.{◌∙◌, arith}
use Rattle.audit_order.proofs.Numbered.{own_more, own_all}
use Rattle.audit_order.proofs.numbering.push_nodes.Goals as goal

pub loop-number-preserved : goal.loop-number-preserved
loop-number-preserved c =
    c.in_ok-push.ensures.items ∙ own_more c.args.count c.args.rid c.loop-number.number c.args.names.now.items c.loop-number.names.items c.loop-number.invariant (omega arith)

pub returns : goal.returns
returns c =
    own_all c.args.count c.args.rid c.loop-number.number c.args.names.now.items c.loop-number.names.items c.push-2.new.self.items c.push-3.new.self.items c.loop-number.invariant (omega arith)
    c.in_ok-push-2.ensures.items c.in_ok-push-3.ensures.items
