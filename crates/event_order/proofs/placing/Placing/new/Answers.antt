use Rattle.event_order.proofs.Steps.{start_covers}
use Rattle.event_order.proofs.placing.Placing.new.Goals as goal

pub returns-clause-covers : goal.returns-clause-covers
returns-clause-covers c = rw c.in_ok-with_capacity.ensures.items (start_covers c.args.graph.now _ c.requires)
