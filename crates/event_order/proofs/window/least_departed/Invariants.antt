use Rattle.std.proofs.Common.{◌≡◌, length}
use Rattle.event_order.specs.Window.{IsWindow, AreLeastDeparted}
use Rattle.event_order.proofs.window.least_departed.Given as goal

abbrev pub invariant-loop-end : goal.invariant-loop-end
invariant-loop-end l =
    IsWindow l.graph l.placing l.window l.end
    × AreLeastDeparted l.graph l.placing l.leasts.items
    × (length l.leasts.items ≡ l.end)
