-- How a trace is spelled.
use Rattle.std.specs.Prelude.{◌≡◌, ℕ, ◌<◌, ◌^◌, Bool, true, false, List, [], ◌∷◌, ◌++◌, length, codes, count_by}
use Rattle.std.specs.Int.{w16, w32, to_be_bytes}
use Rattle.wire.specs.Spellings.{Field, bytes_spelling}
use Rattle.wire.specs.Files.{Format}
use Rattle.script_tree.specs.declared.limits.TheConstants.{MOST_REQUESTS}
use Rattle.script_tree.specs.Requests.{Request, IsRequestWithinLimits}
use Rattle.script_tree.specs.declared.request.Parameter.{Parameter}
use Rattle.script_tree.specs.declared.request.Response.{Response}
use Rattle.period.specs.declared.trace.TraceEvent.{TraceEvent}
use Rattle.period.specs.declared.trace.TraceEvent.TheVariants.{Asked, Answered}

-- its name and its value
abbrev pub parameter_spelling : Parameter → List ℕ
parameter_spelling p = bytes_spelling p.name ++ bytes_spelling p.value

-- parameters, one after another
abbrev pub parameters_spelling : List Parameter → List ℕ
parameters_spelling [] = []
parameters_spelling (p ∷ ps) = parameter_spelling p ++ parameters_spelling ps

-- method, path, how many parameters, these, and the body
abbrev pub request_spelling : Request → List ℕ
request_spelling q =
    bytes_spelling q.method
    ++ (bytes_spelling q.path
    ++ (to_be_bytes w32 (length q.parameters)
    ++ (parameters_spelling q.parameters ++ bytes_spelling q.body)))

-- the status and the body
abbrev pub response_spelling : Response → List ℕ
response_spelling x = to_be_bytes w16 x.status ++ bytes_spelling x.body

-- a tag, the id, and the request or the response
abbrev pub event_spelling : TraceEvent → List ℕ
event_spelling (Asked rid q) = 1 ∷ (to_be_bytes w32 rid ++ request_spelling q)
event_spelling (Answered rid x) = 2 ∷ (to_be_bytes w32 rid ++ response_spelling x)

-- ---- what may stand at a place

-- The lengths of a parameter's texts have their widths.
abbrev pub IsParameter : Parameter → Type 0
IsParameter p = (length p.name < 2 ^ 32) × (length p.value < 2 ^ 32)

-- Those of each have their widths.
abbrev pub AreParameters : List Parameter → Type 0
AreParameters [] = Unit {0}
AreParameters (p ∷ ps) = IsParameter p × AreParameters ps

-- The status and the length of the body have their widths.
abbrev pub IsResponse : Response → Type 0
IsResponse x = (x.status < 2 ^ 16) × (length x.body < 2 ^ 32)

-- Behind so many requests it may stand: its numbers have their widths, and a request is within its
-- limits and not one more than a trace may have.
abbrev pub IsEvent : ℕ → TraceEvent → Type 0
IsEvent asked (Asked rid q) = (rid < 2 ^ 32) × (IsRequestWithinLimits q × (asked < MOST_REQUESTS))
IsEvent asked (Answered rid x) = (rid < 2 ^ 32) × IsResponse x

-- a parameter
abbrev pub parameter_field : Field Parameter
parameter_field = record { allows = λ p. IsParameter p; spelling = λ p. parameter_spelling p }

-- so many parameters, one after another
abbrev pub parameters_field : ℕ → Field (List Parameter)
parameters_field count = record {
  allows = λ ps. (length ps ≡ count) × AreParameters ps;
  spelling = λ ps. parameters_spelling ps;
}

-- a request within its limits
abbrev pub request_field : Field Request
request_field = record { allows = λ q. IsRequestWithinLimits q; spelling = λ q. request_spelling q }

-- a response
abbrev pub response_field : Field Response
response_field = record { allows = λ x. IsResponse x; spelling = λ x. response_spelling x }

-- an event behind so many requests
abbrev pub event_field : ℕ → Field TraceEvent
event_field asked = record { allows = λ e. IsEvent asked e; spelling = λ e. event_spelling e }

-- ---- the format

-- whether the event is a request
abbrev pub is_request : TraceEvent → Bool
is_request (Asked rid q) = true
is_request (Answered rid x) = false

-- how many of the events are requests
abbrev pub request_count : List TraceEvent → ℕ
request_count events = count_by is_request events

-- any events, of which no more are requests than a trace may have
abbrev pub trace_format : Format TraceEvent
trace_format = record {
  magic = codes "SSCOTRC1";
  payload = λ e. event_spelling e;
  allows = λ before e. IsEvent (request_count before) e;
}
