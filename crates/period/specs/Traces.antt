-- What a trace says of requests, responses and time, by places in the trace.
use Rattle.std.specs.Prelude.{◌≡◌, ℕ, ◌<◌, List, Option, Some, None, nat_eq, if◌then◌else◌}
use Rattle.basis.specs.Lists.{nth, first_answer}
use Rattle.script_tree.specs.Requests.{Request}
use Rattle.script_tree.specs.declared.request.Response.{Response}
use Rattle.period.specs.declared.trace.TraceEvent.{TraceEvent}
use Rattle.period.specs.declared.trace.TraceEvent.TheVariants.{Asked, Answered}

-- the request of an id, where it is this event
abbrev pub request_in : ℕ → TraceEvent → Option Request
request_in r (Asked rid q) = if nat_eq r rid then Some q else None
request_in r (Answered rid x) = None

-- the response of an id, where it is this event
abbrev pub response_in : ℕ → TraceEvent → Option Response
response_in r (Asked rid q) = None
response_in r (Answered rid x) = if nat_eq r rid then Some x else None

-- the request and the response of an id
unfoldable pub request_of : List TraceEvent → ℕ → Option Request
request_of trace r = first_answer (request_in r) trace

-- the response of an id
unfoldable pub response_of : List TraceEvent → ℕ → Option Response
response_of trace r = first_answer (response_in r) trace

-- Each id is asked once; each request has exactly one response, which stands after it; and each response has a request.
pub record IsBalanced (trace : List TraceEvent) : Type 0 where
  pub asked_once : (r i j : ℕ) (p q : Request) → nth trace i ≡ Some (Asked r p) → nth trace j ≡ Some (Asked r q) → i ≡ j
  pub answered_once : (r i j : ℕ) (x y : Response) → nth trace i ≡ Some (Answered r x) → nth trace j ≡ Some (Answered r y) → i ≡ j
  pub is_answered : (r i : ℕ) (q : Request) → nth trace i ≡ Some (Asked r q) → (j : ℕ) × (x : Response) × (i < j) × (nth trace j ≡ Some (Answered r x))
  pub was_asked : (r j : ℕ) (x : Response) → nth trace j ≡ Some (Answered r x) → (i : ℕ) × (q : Request) × (nth trace i ≡ Some (Asked r q))

-- One request precedes another in time: its response stands before the other.
pub record Precedes (trace : List TraceEvent) (a b : ℕ) : Type 0 where
  pub left : ℕ
  pub response : Response
  pub right : ℕ
  pub request : Request
  pub answers : nth trace left ≡ Some (Answered a response)
  pub asks : nth trace right ≡ Some (Asked b request)
  pub in_order : left < right
