use Rattle.std.proofs.Common.{◌≡◌, map, take}
use Rattle.audit_meaning.specs.Nodes.{moment}
use Rattle.audit_order.proofs.scheduling.schedule_of.Given as goal

abbrev pub invariant-loop-node : goal.invariant-loop-node
invariant-loop-node l = l.moments.items ≡ map (moment l.report) (take l.node-index l.nodes)
