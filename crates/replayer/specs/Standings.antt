-- How the requests of a trace stand, each at its place in the trace.
use Rattle.std.specs.Prelude.{◌≡◌, ◌≢◌, ℕ, suc, ◌+◌, Bool, true, false, not, if◌then◌else◌, List, [], ◌∷◌, drop, Option, Some, None, slice_get, slice_set, slice_index_or}
use Rattle.script_tree.specs.Datum.{Datum}
use Rattle.script_tree.specs.Programs.{Program}
use Rattle.period.specs.Traces.{request_of}
use Rattle.period.specs.declared.trace.TraceEvent.{TraceEvent}
use Rattle.period.specs.declared.trace.TraceEvent.TheVariants.{Asked, Answered}
use Rattle.script_meaning.specs.Conduct.{Undefined}
use Rattle.script_meaning.specs.Replay.{ending_of}
use Rattle.trace_format.specs.Heads.{head_of}
use Rattle.trace_format.specs.declared.trace_file.EventHead.{EventHead}
use Rattle.replayer.specs.Differences.{left_open}
use Rattle.replayer.specs.Opened.{Opened, with_answer}
use Rattle.trace_index.specs.Places.{request_place}
use Rattle.replayer.specs.declared.reason.ReplayReason.{ReplayReason}
use Rattle.replayer.specs.declared.standing.Standing.{Standing}
use Rattle.replayer.specs.declared.standing.Standing.TheVariants.{Away, Open, Departed}

-- how the request at a place stands, where it has one; one without a place is away
abbrev pub standing_at : List Standing → Option ℕ → Standing
standing_at ss None = Away
standing_at ss (Some place) = slice_index_or ss place Away

-- how the request of an id stands; one that the trace lacks is away
abbrev pub standing_in : List TraceEvent → List Standing → ℕ → Standing
standing_in trace ss r = standing_at ss (request_place trace r)

-- the answers so far of an open request
abbrev pub answers_in : Standing → Option (List Datum)
answers_in Away = None
answers_in (Open o) = Some o.answers
answers_in Departed = None

-- the request has not arrived
abbrev pub is_away : Standing → Bool
is_away Away = true
is_away (Open o) = false
is_away Departed = false

-- the request has departed
abbrev pub is_departed : Standing → Bool
is_departed Away = false
is_departed (Open o) = false
is_departed Departed = true

-- the request of an id has departed
abbrev pub departed_in : List TraceEvent → List Standing → ℕ → Bool
departed_in trace ss r = is_departed (standing_in trace ss r)

-- One request stands so now, and all others as before.
pub record Puts (trace : List TraceEvent) (before after : List Standing) (r : ℕ) (s : Standing) : Type 0 where
  pub here : standing_in trace after r ≡ s
  pub others : (x : ℕ) → x ≢ r → standing_in trace after x ≡ standing_in trace before x

-- An open request gets an answer at its place.
abbrev pub PutsAnswer : List Standing → ℕ → Datum → List Standing → Type 0
PutsAnswer before place d after = (o : Opened) → slice_index_or before place Away ≡ Open o → after ≡ slice_set before place (Open (with_answer o d))

-- ---- responses that are waited for

-- a response whose request hasn't departed
abbrev pub waits : (ℕ → Bool) → TraceEvent → Bool
waits departed (Asked rid q) = false
waits departed (Answered rid x) = not (departed rid)

-- the place of the first of these; the length of the list, where there is none
abbrev pub first_waiting : (ℕ → Bool) → List TraceEvent → ℕ
first_waiting departed [] = 0
first_waiting departed (e ∷ es) = if waits departed e then 0 else suc (first_waiting departed es)

-- the same from a place on
abbrev pub waiting_from : List TraceEvent → List Standing → ℕ → ℕ
waiting_from trace ss from = from + first_waiting (departed_in trace ss) (drop from trace)

-- whether such a response stands here
abbrev pub IsWaiting : List TraceEvent → List Standing → ℕ → Bool → Type 0
IsWaiting trace ss place b = (e : TraceEvent) → slice_get trace place ≡ Some e → b ≡ waits (departed_in trace ss) e

-- what is told of the event of a head: itself, where it is a request that hasn't departed
abbrev pub IsLeftOpen : List TraceEvent → List Standing → EventHead → Option ReplayReason → Type 0
IsLeftOpen trace ss head told = (e : TraceEvent) → head ≡ head_of e → told ≡ left_open (departed_in trace ss) e

-- ---- runs

-- The open request is the trace's of this id, and has only answers to operations that it wanted, so that its run goes on
-- or ends.
pub record IsOpened (program : Program) (trace : List TraceEvent) (r : ℕ) (o : Opened) : Type 0 where
  pub traced : request_of trace r ≡ Some o.request
  pub defined : ending_of program o.request o.answers ≢ Undefined

-- each request that stands open is so
abbrev pub AreOpened : Program → List TraceEvent → List Standing → Type 0
AreOpened program trace ss = (r : ℕ) (o : Opened) → standing_in trace ss r ≡ Open o → IsOpened program trace r o
