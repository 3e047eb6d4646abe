use Rattle.std.proofs.Common.{◌∙◌, ap, subst}
use Rattle.event_order.specs.OrderOrCycle.{IsOrderOrCycle}
use Rattle.audit_order.specs.Mirrors.{named}
use Rattle.audit_order.proofs.Whole.{whole_order, whole_cycle}
use Rattle.audit_order.proofs.ordering.order_graph.Goals as goal

pub returns-in_ok-named-in-Order : goal.returns-in_ok-named-in-Order
returns-in_ok-named-in-Order c = λ trace report b same m.
    let out = subst (IsOrderOrCycle c.args.graph) c.in-Order.is c.in_ok-outcome.ensures in
    whole_order trace report c.args.graph c.args.names.now c.in_ok-named-in-Order.field-0 c.in-Order.numbers.items b same m out.0 out.1
    (c.in_ok-named-in-Order.ensures ∙ ap (named c.args.names.now) c.deref.ensures.value)

pub returns-in_ok-named-in-Cycle : goal.returns-in_ok-named-in-Cycle
returns-in_ok-named-in-Cycle c = λ trace report b same m.
    let out = subst (IsOrderOrCycle c.args.graph) c.in-Cycle.is c.in_ok-outcome.ensures in
    whole_cycle trace report c.args.graph c.args.names.now c.in_ok-named-in-Cycle.field-0 out.0 c.in-Cycle.numbers.items b same m out.1 out.2 out.3
    (c.in_ok-named-in-Cycle.ensures ∙ ap (named c.args.names.now) c.deref-in-Cycle.ensures.value)
