-- Which request of a trace comes directly before which, by places.
use Rattle.std.specs.Prelude.{ℕ, List}
use Rattle.std.specs.List.Sorted.{IsStrictlySortedBy}
use Rattle.std.specs.Ordering.{nat_cmp, ordering_then}
use Rattle.std.specs.declared.cmp.Ordering.{Ordering}
use Rattle.period.specs.declared.trace.TraceEvent.{TraceEvent}
use Rattle.audit_meaning.specs.EdgesAre.{LiesBetween}
use Rattle.audit_meaning.specs.Placed.{IsIn}
use Rattle.precedence_graph.specs.Departures.{DepartsBefore, ArrivesAt}

-- The request that stands at the first place departs before the second, and no whole request lies between.
pub record DepartsDirectly (trace : List TraceEvent) (comes place : ℕ) : Type 0 where
  pub departs : DepartsBefore trace comes place
  pub none_between : LiesBetween trace departs.goes place → ⊥

-- It does, and at the second place another request stands.
pub record IsDirectlyBefore (trace : List TraceEvent) (a b : ℕ) : Type 0 where
  pub departs : DepartsDirectly trace a b
  pub arrives : ArrivesAt trace b

-- in order of the later request, and then of the earlier one
abbrev pub by_later : ℕ × ℕ → ℕ × ℕ → Ordering
by_later e f = ordering_then (nat_cmp e.1 f.1) (nat_cmp e.0 f.0)

-- The list has exactly these pairs, each once, in that order.
pub record AreEdges (trace : List TraceEvent) (edges : List (ℕ × ℕ)) : Type 0 where
  pub each : (e : ℕ × ℕ) → IsIn edges e → IsDirectlyBefore trace e.0 e.1
  pub all : (a b : ℕ) → IsDirectlyBefore trace a b → IsIn edges (a, b)
  pub ascending : IsStrictlySortedBy by_later edges
