-- What comes of `order`.
use Rattle.std.specs.Prelude.{◌≡◌, ℕ, ◌<◌, List, length}
use Rattle.event_order.specs.declared.graph.Graph.{Graph}
use Rattle.event_order.specs.declared.ordering.OrderOrCycle.{OrderOrCycle}
use Rattle.event_order.specs.declared.ordering.OrderOrCycle.TheVariants.{Order, Cycle}
use Rattle.event_order.specs.Order.{IsOrder}
use Rattle.event_order.specs.Cycle.{IsCycle}

-- the order with all nodes, or the cycle where it ends before
abbrev pub IsOrderOrCycle : Graph → OrderOrCycle → Type 0
IsOrderOrCycle g (Order xs) = IsOrder g xs.items × (length xs.items ≡ length g.nodes.items)
IsOrderOrCycle g (Cycle cycle) = (xs : List ℕ) × IsOrder g xs × (length xs < length g.nodes.items) × IsCycle g xs cycle.items
