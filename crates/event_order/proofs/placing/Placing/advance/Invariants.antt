use Rattle.std.proofs.Common.{◌≡◌, ◌-◌, length}
use Rattle.event_order.specs.Standing.{IsStanding, IsCovering}
use Rattle.event_order.proofs.placing.Placing.advance.Given as goal

abbrev pub invariant-loop-self : goal.invariant-loop-self
invariant-loop-self l = (l.self.order ≡ l.initial.self.order) × IsStanding l.graph l.self × IsCovering l.graph l.self

abbrev pub decreases-loop-self : goal.decreases-loop-self
decreases-loop-self l = length l.graph.trace.items - l.self.passed
