use Rattle.std.proofs.Common.{◌-◌, length}
use Rattle.event_order.proofs.Paces.{Walking}
use Rattle.event_order.proofs.walking.find_cycle.Given as goal

abbrev pub invariant-loop-next : goal.invariant-loop-next
invariant-loop-next l = Walking l.graph l.placing.order.items l.walk.items l.seen.items l.next

abbrev pub decreases-loop-next : goal.decreases-loop-next
decreases-loop-next l = length l.graph.nodes.items - length l.walk.items
