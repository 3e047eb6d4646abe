use Rattle.event_order.proofs.Windows.{leasts_next}
use Rattle.event_order.proofs.window.least_departed.Goals as goal

pub loop-end-preserved : goal.loop-end-preserved
loop-end-preserved c =
    let inv = c.loop-end.invariant in
    let next = leasts_next c.args.graph.now c.args.placing.now c.loop-end.leasts.items _ _ c.loop-end.end
    inv.1 inv.2 c.in_ok-take_in.ensures.least c.in_ok-push.ensures.items in
    (c.in_ok-take_in.ensures.window, next.0, next.1)
