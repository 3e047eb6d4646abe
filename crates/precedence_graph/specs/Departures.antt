-- When requests of a trace are answered, by places.
use Rattle.std.specs.Prelude.{ℕ, ◌<◌, List, Option, Some, None}
use Rattle.script_tree.specs.Requests.{Request}
use Rattle.script_tree.specs.declared.request.Response.{Response}
use Rattle.period.specs.declared.trace.TraceEvent.{TraceEvent}
use Rattle.trace_format.specs.Balance.{AsksAt, AnswersAt}

-- The request that stands at the first place is answered at the second.
pub record DepartsAt (trace : List TraceEvent) (comes goes : ℕ) : Type 0 where
  pub rid : ℕ
  pub request : Request
  pub asked : AsksAt trace comes rid request
  pub response : Response
  pub answered : AnswersAt trace goes rid response

-- The request that stands at the first place is answered before the second.
pub record DepartsBefore (trace : List TraceEvent) (comes place : ℕ) : Type 0 where
  pub goes : ℕ
  pub departs : DepartsAt trace comes goes
  pub before : goes < place

-- a request stands at the place
abbrev pub ArrivesAt : List TraceEvent → ℕ → Type 0
ArrivesAt trace place = (r : ℕ) × (q : Request) × AsksAt trace place r q

-- the place of the request that is answered here; none where a request stands
abbrev pub IsAnsweredHere : List TraceEvent → ℕ → Option ℕ → Type 0
IsAnsweredHere trace place None = ArrivesAt trace place
IsAnsweredHere trace place (Some comes) = DepartsAt trace comes place
