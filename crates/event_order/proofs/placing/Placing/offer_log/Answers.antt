use Rattle.std.proofs.lemmas.Result.{on_ok_weaker}
use Rattle.event_order.proofs.Placed.{log_offered, none_offered}
use Rattle.event_order.proofs.Steps.{node_at}
use Rattle.event_order.proofs.placing.Placing.offer_log.Goals as goal

pub returns-in-Some-clause-offers : goal.returns-in-Some-clause-offers
returns-in-Some-clause-offers c =
    let g = c.args.graph.now in
    let node = c.index.result.now in
    let is = node_at g c.args.x node c.requires.inside c.index.ensures in
    on_ok_weaker c.offer.result (log_offered g c.offer.new.self c.args.x c.in-Some.y node is c.in-Some.is) c.offer.ensures.offers

pub returns-in-None-clause-offers : goal.returns-in-None-clause-offers
returns-in-None-clause-offers c =
    let g = c.args.graph.now in
    let node = c.index.result.now in
    let is = node_at g c.args.x node c.requires.inside c.index.ensures in
    none_offered g c.args.self.now c.args.x node is c.in-None.is
