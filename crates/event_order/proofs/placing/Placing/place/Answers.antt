use Rattle.std.proofs.Common.{refl}
use Rattle.event_order.proofs.Steps.{places}
use Rattle.event_order.proofs.Placed.{offered}
use Rattle.event_order.proofs.placing.Placing.place.Goals as goal

pub offer-requires-clause-holds : goal.offer-requires-clause-holds
offer-requires-clause-holds c = rw c.in_ok-push.ensures.items (places c.args.graph.now _ _ _ _ c.args.x c.requires.taken _ refl)

pub advance-requires-clause-covers : goal.advance-requires-clause-covers
advance-requires-clause-covers c =
    offered c.args.graph.now c.args.self.now _ c.offer.new.self c.offer_log.new.self c.args.x
    c.requires.graph c.requires.taken c.in_ok-push.ensures.items refl refl
    c.in_ok-offer.ensures.grows c.in_ok-offer.ensures.offers c.in_ok-offer_log.ensures.grows c.in_ok-offer_log.ensures.offers
