use Rattle.std.proofs.Common.{subst}
use Rattle.event_order.specs.Cycle.{FindsCycle}
use Rattle.event_order.proofs.Ends.{cycle_short, all_long}
use Rattle.event_order.proofs.Stuckness.{no_cycle_none_left}
use Rattle.event_order.proofs.ordering.order.Goals as goal

pub returns-in-Some : goal.returns-in-Some
returns-in-Some c =
    let g = c.args.graph.now in
    let xs = c.in_ok-placing.placing.order.items in
    let found = subst (FindsCycle g xs) c.in-Some.is c.in_ok-cycle.ensures in
    (xs, c.in_ok-placing.ensures.order, cycle_short g xs _ c.in_ok-placing.ensures.order.placed found, found)

pub returns-in-None : goal.returns-in-None
returns-in-None c =
    let g = c.args.graph.now in
    let xs = c.in_ok-placing.placing.order.items in
    let order = c.in_ok-placing.ensures.order in
    let none = subst (FindsCycle g xs) c.in-None.is c.in_ok-cycle.ensures in
    (order, all_long g xs order.placed (no_cycle_none_left g xs c.requires.graph c.requires.thin order none))
