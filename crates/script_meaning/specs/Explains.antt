-- What it is that a schedule explains a trace.
use Rattle.std.specs.Prelude.{◌≡◌, ℕ, ◌<◌, List, Some}
use Rattle.basis.specs.Lists.{nth}
use Rattle.script_tree.specs.Objects.{Objects}
use Rattle.script_tree.specs.Programs.{Program}
use Rattle.script_tree.specs.Requests.{Request}
use Rattle.period.specs.Traces.{request_of, Precedes}
use Rattle.script_tree.specs.declared.operation.Choice.{Choice}
use Rattle.period.specs.declared.schedule.Moment.{Moment}
use Rattle.period.specs.declared.schedule.Moment.TheVariants.{Arrive, Act, Depart}
use Rattle.period.specs.declared.trace.TraceEvent.{TraceEvent}
use Rattle.script_meaning.specs.Replay.{opening, Plays}

-- the request that a moment is about
abbrev pub rid_of : Moment → ℕ
rid_of (Arrive r) = r
rid_of (Act r choice) = r
rid_of (Depart r) = r

-- The request arrives once and departs once, and acts in between.
pub record IsWhole (schedule : List Moment) (r : ℕ) : Type 0 where
  pub arrival : ℕ
  pub departure : ℕ
  pub arrives : nth schedule arrival ≡ Some (Arrive r)
  pub departs : nth schedule departure ≡ Some (Depart r)
  pub arrives_once : (i : ℕ) → nth schedule i ≡ Some (Arrive r) → i ≡ arrival
  pub departs_once : (i : ℕ) → nth schedule i ≡ Some (Depart r) → i ≡ departure
  pub in_order : arrival < departure
  pub acts_between : (i : ℕ) (choice : Choice) → nth schedule i ≡ Some (Act r choice) → (arrival < i) × (i < departure)

-- Each request of the trace is whole in the schedule, and no other request is in it. Where one request precedes another in
-- time, it departs before the other arrives. Played from the start, every moment is allowed, and each departure gives the
-- trace's response.
pub record Explains (program : Program) (start : Objects) (trace : List TraceEvent) (schedule : List Moment) : Type 0 where
  pub whole : (r : ℕ) (q : Request) → request_of trace r ≡ Some q → IsWhole schedule r
  pub of_trace : (i : ℕ) (m : Moment) → nth schedule i ≡ Some m → (q : Request) × (request_of trace (rid_of m) ≡ Some q)
  pub in_time : (a b i j : ℕ) → Precedes trace a b → nth schedule i ≡ Some (Depart a) → nth schedule j ≡ Some (Arrive b) → i < j
  pub plays : Plays program trace (opening start) schedule
