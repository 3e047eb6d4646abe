use Rattle.std.proofs.Common.{◌∙◌}
use Rattle.audit_order.proofs.Shown.{shown_is_orderable}
use Rattle.audit_order.proofs.building.order_events.Goals as goal

pub order_graph-requires-clause-graph : goal.order_graph-requires-clause-graph
order_graph-requires-clause-graph c =
    let f = c.requires.faultless in
    (shown_is_orderable f.program f.start c.args.trace.now c.args.report.now c.in_ok-graph.graph c.requires.balanced f.none c.in_ok-graph.ensures).graph

pub order_graph-requires-clause-thin : goal.order_graph-requires-clause-thin
order_graph-requires-clause-thin c =
    let f = c.requires.faultless in
    (shown_is_orderable f.program f.start c.args.trace.now c.args.report.now c.in_ok-graph.graph c.requires.balanced f.none c.in_ok-graph.ensures).thin

pub returns : goal.returns
returns c =
    let f = c.requires.faultless in
    let o = shown_is_orderable f.program f.start c.args.trace.now c.args.report.now c.in_ok-graph.graph c.requires.balanced f.none c.in_ok-graph.ensures in
    c.order_graph.ensures c.args.trace.now c.args.report.now c.requires.balanced (c.deref.ensures.value ∙ c.in_ok-numbering.ensures.names) o.mirrors
