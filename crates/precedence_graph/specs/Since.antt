-- From which place of a trace on no whole request lies between a departure and another place.
use Rattle.std.specs.Prelude.{◌≡◌, ℕ, ◌<◌, ◌≤◌, ◌⊎◌, ◌↔◌, List, length, Some}
use Rattle.basis.specs.Lists.{nth}
use Rattle.period.specs.declared.trace.TraceEvent.{TraceEvent}
use Rattle.audit_meaning.specs.EdgesAre.{LiesBetween}
use Rattle.precedence_graph.specs.Departures.{DepartsBefore}
use Rattle.precedence_graph.specs.Edges.{DepartsDirectly}

-- the greatest place of a request that is answered before this place; 0 where there is none
pub record IsSince (trace : List TraceEvent) (place since : ℕ) : Type 0 where
  pub attained : (since ≡ 0) ⊎ DepartsBefore trace since place
  pub most : (comes : ℕ) → DepartsBefore trace comes place → comes ≤ since

-- At each place of the list stands that of the event at the same place of the trace.
pub record AreSince (trace : List TraceEvent) (since : List ℕ) : Type 0 where
  pub count : length since ≡ length trace
  pub each : (place : ℕ) → place < length trace → (s : ℕ) × (nth since place ≡ Some s) × IsSince trace place s

-- A whole request lies between two places exactly where the first is smaller than that of the second.
abbrev pub SinceCutsIndirect : Type 0
SinceCutsIndirect = (trace : List TraceEvent) (left right since : ℕ) → IsSince trace right since → (LiesBetween trace left right ↔ (left < since))

-- A request departs directly before a place exactly where it does so from that of the place on.
abbrev pub DirectFromSince : Type 0
DirectFromSince = (trace : List TraceEvent) (comes place since : ℕ) → IsSince trace place since
    → (DepartsDirectly trace comes place ↔ ((d : DepartsBefore trace comes place) × (since ≤ d.goes)))

-- That of a later place is no smaller.
abbrev pub SinceRises : Type 0
SinceRises = (trace : List TraceEvent) (i j s t : ℕ) → IsSince trace i s → IsSince trace j t → i ≤ j → s ≤ t

-- A place has one.
abbrev pub SinceIsOne : Type 0
SinceIsOne = (trace : List TraceEvent) (place s t : ℕ) → IsSince trace place s → IsSince trace place t → s ≡ t
