-- Where a schedule first differs from a trace, and what a replay finds.
use Rattle.std.specs.Prelude.{ℕ, Bool, false, ◌||◌, not, if◌then◌else◌, List, [], ◌∷◌, ◌++◌, length, Option, Some, None, Result, Ok, Err, nat_eq, is_none}
use Rattle.std.specs.List.{list_any}
use Rattle.std.specs.Str.{bytes_eq}
use Rattle.script_tree.specs.Objects.{Objects, plausible}
use Rattle.period.specs.Traces.{request_of, response_of}
use Rattle.script_tree.specs.declared.operation.Choice.{Choice}
use Rattle.script_tree.specs.declared.request.Response.{Response}
use Rattle.period.specs.declared.schedule.Moment.{Moment}
use Rattle.period.specs.declared.schedule.Moment.TheVariants.{Arrive, Act, Depart}
use Rattle.script_tree.specs.Programs.{Program}
use Rattle.period.specs.declared.trace.TraceEvent.{TraceEvent}
use Rattle.period.specs.declared.trace.TraceEvent.TheVariants.{Asked, Answered}
use Rattle.script_meaning.specs.Conduct.{Ending, Wants, Ends, Undefined}
use Rattle.script_meaning.specs.Explains.{rid_of}
use Rattle.script_meaning.specs.Replay.{Scene, opening, next_of, after}
use Rattle.replayer.specs.declared.reason.Reason.{Reason}
use Rattle.replayer.specs.declared.reason.Reason.TheVariants.{UnknownRequest, SecondArrival, TooEarly, NotOpen, RunEnds, BadChoice, WantsOperation, OtherResponse}
use Rattle.replayer.specs.declared.reason.ReplayReason.{ReplayReason}
use Rattle.replayer.specs.declared.reason.ReplayReason.TheVariants.{Unreadable, AtMoment, Open as LeftOpen}
use Rattle.replayer.specs.declared.reason.Replayed.{Replayed}
use Rattle.replayer.specs.declared.reason.Replayed.TheVariants.{Agrees, Differs}

-- the number of the reason why a moment fails
abbrev pub reason_number : Reason → ℕ
reason_number UnknownRequest = 2
reason_number SecondArrival = 3
reason_number TooEarly = 4
reason_number NotOpen = 5
reason_number RunEnds = 6
reason_number BadChoice = 7
reason_number WantsOperation = 8
reason_number OtherResponse = 9

-- the number of the reason that a replay tells
abbrev pub replay_number : ReplayReason → ℕ
replay_number (Unreadable at) = 1
replay_number (AtMoment reason moment rid) = reason_number reason
replay_number (LeftOpen rid) = 10

-- ---- what the moments so far tell of a request

-- the moment is the arrival of this request
abbrev pub is_arrival : ℕ → Moment → Bool
is_arrival r (Arrive rid) = nat_eq r rid
is_arrival r (Act rid choice) = false
is_arrival r (Depart rid) = false

-- the moment is the departure of this request
abbrev pub is_departure : ℕ → Moment → Bool
is_departure r (Arrive rid) = false
is_departure r (Act rid choice) = false
is_departure r (Depart rid) = nat_eq r rid

-- the request has arrived in these moments
unfoldable pub has_arrived : List Moment → ℕ → Bool
has_arrived past r = list_any (is_arrival r) past

-- the request has departed in these moments
unfoldable pub has_departed : List Moment → ℕ → Bool
has_departed past r = list_any (is_departure r) past

-- On the way through the trace to the request's arrival stands a response whose request hasn't departed.
unfoldable pub is_too_early : List TraceEvent → List Moment → ℕ → Bool
is_too_early [] past r = false
is_too_early (Asked rid q ∷ events) past r = if nat_eq r rid then false else is_too_early events past r
is_too_early (Answered rid x ∷ events) past r = not (has_departed past rid) || is_too_early events past r

-- the response is the one in the trace, if there is one: the same status and the same body
abbrev pub is_same_response : Response → Option Response → Bool
is_same_response x None = false
is_same_response x (Some y) = if nat_eq x.status y.status then bytes_eq x.body y.body else false

-- ---- why a moment fails in a scene, after the moments so far: nothing, where it is one of the trace

-- why a request may not arrive: it has arrived before, or it is too early
abbrev pub arrival_fault : List TraceEvent → List Moment → ℕ → Option Reason
arrival_fault trace past r = if has_arrived past r then Some SecondArrival else (if is_too_early trace past r then Some TooEarly else None)

-- what an open request does next decides whether it may act
abbrev pub act_fault : Scene → Choice → Option Ending → Option Reason
act_fault scene choice None = Some NotOpen
act_fault scene choice (Some (Wants op)) = if plausible op.act choice (scene.objects op.object) then None else Some BadChoice
act_fault scene choice (Some (Ends response path)) = Some RunEnds
act_fault scene choice (Some Undefined) = Some RunEnds

-- and whether it may depart
abbrev pub departure_fault : Option Response → Option Ending → Option Reason
departure_fault traced None = Some NotOpen
departure_fault traced (Some (Ends response path)) = if is_same_response response traced then None else Some OtherResponse
departure_fault traced (Some (Wants op)) = Some WantsOperation
departure_fault traced (Some Undefined) = Some WantsOperation

-- why a moment of a request of the trace fails
abbrev pub moment_fault : Program → List TraceEvent → List Moment → Scene → Moment → Option Reason
moment_fault program trace past scene (Arrive r) = arrival_fault trace past r
moment_fault program trace past scene (Act r choice) = act_fault scene choice (next_of program trace scene r)
moment_fault program trace past scene (Depart r) = departure_fault (response_of trace r) (next_of program trace scene r)

-- a moment of an unknown request fails before all else
unfoldable pub fault_of : Program → List TraceEvent → List Moment → Scene → Moment → Option Reason
fault_of program trace past scene m =
    if is_none (request_of trace (rid_of m)) then Some UnknownRequest else moment_fault program trace past scene m

-- ---- the first that fails

-- a request that hasn't departed
abbrev pub left_open : (ℕ → Bool) → TraceEvent → Option ReplayReason
left_open departed (Asked rid q) = if departed rid then None else Some (LeftOpen rid)
left_open departed (Answered rid x) = None

-- the first request of the trace that hasn't departed
abbrev pub first_not_departed : (ℕ → Bool) → List TraceEvent → Option ReplayReason
first_not_departed departed [] = None
first_not_departed departed (Asked rid q ∷ events) = if departed rid then first_not_departed departed events else Some (LeftOpen rid)
first_not_departed departed (Answered rid x ∷ events) = first_not_departed departed events

-- the first of these moments that fails, where those so far led to this scene; after the last, a request that hasn't departed
unfoldable pub difference_from : Program → List TraceEvent → List Moment → Scene → List Moment → Option ReplayReason
difference_from program trace past scene [] = first_not_departed (has_departed past) trace
difference_from program trace past scene (m ∷ ms) = elim (fault_of program trace past scene m) [
  | Some reason ↦ Some (AtMoment reason (length past) (rid_of m))
  | None ↦ difference_from program trace (past ++ m ∷ []) (after program trace scene m) ms
]

-- where a schedule first differs from a trace, if it does
abbrev pub difference_of : Program → Objects → List TraceEvent → List Moment → Option ReplayReason
difference_of program start trace schedule = difference_from program trace [] (opening start) schedule

-- what a replay finds, by where the schedule first differs
abbrev pub verdict : Option ReplayReason → Replayed
verdict None = Agrees
verdict (Some reason) = Differs reason

-- what a replay finds of a schedule, or of a file that is none from a byte on
abbrev pub replayed : Program → Objects → List TraceEvent → Result (List Moment) ℕ → Replayed
replayed program start trace (Ok schedule) = verdict (difference_of program start trace schedule)
replayed program start trace (Err at) = Differs (Unreadable at)
