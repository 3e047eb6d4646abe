-- Which request id names the fault of a trace that isn't balanced, by places in the trace.
use Rattle.std.specs.Prelude.{◌≡◌, ℕ, ◌<◌, List, Option, Some, None, ◌⊎◌}
use Rattle.basis.specs.Lists.{nth}
use Rattle.script_tree.specs.Requests.{Request}
use Rattle.period.specs.Traces.{IsBalanced}
use Rattle.script_tree.specs.declared.request.Response.{Response}
use Rattle.period.specs.declared.trace.TraceEvent.{TraceEvent}
use Rattle.period.specs.declared.trace.TraceEvent.TheVariants.{Asked, Answered}

-- This request with this id stands at the place.
abbrev pub AsksAt : List TraceEvent → ℕ → ℕ → Request → Type 0
AsksAt trace place r q = nth trace place ≡ Some (Asked r q)

-- This response with this id stands at the place.
abbrev pub AnswersAt : List TraceEvent → ℕ → ℕ → Response → Type 0
AnswersAt trace place r x = nth trace place ≡ Some (Answered r x)

-- a request of this id stands before the place
abbrev pub IsAskedBefore : List TraceEvent → ℕ → ℕ → Type 0
IsAskedBefore trace place r = (k : ℕ) × (q : Request) × (k < place) × AsksAt trace k r q

-- a response of this id stands before the place
abbrev pub IsAnsweredBefore : List TraceEvent → ℕ → ℕ → Type 0
IsAnsweredBefore trace place r = (k : ℕ) × (x : Response) × (k < place) × AnswersAt trace k r x

-- a response of this id stands somewhere
abbrev pub IsAnswered : List TraceEvent → ℕ → Type 0
IsAnswered trace r = (k : ℕ) × (x : Response) × AnswersAt trace k r x

-- What stands at a place fits: a request has a new id; a response has a request before it, and is
-- the first of its id.
pub record IsFitting (trace : List TraceEvent) (place : ℕ) : Type 0 where
  pub is_new : (r : ℕ) (q : Request) → AsksAt trace place r q → ¬ IsAskedBefore trace place r
  pub was_asked : (r : ℕ) (x : Response) → AnswersAt trace place r x → IsAskedBefore trace place r
  pub is_open :
      (r : ℕ) (x : Response) → AnswersAt trace place r x → ¬ IsAnsweredBefore trace place r

-- what stands at a place is a request whose id was asked before
abbrev pub IsAskedAgain : List TraceEvent → ℕ → ℕ → Type 0
IsAskedAgain trace place r = (q : Request) × AsksAt trace place r q × IsAskedBefore trace place r

-- what stands at a place is a response while no request of its id is open: none came, or it was
-- answered already
abbrev pub IsAnsweredInVain : List TraceEvent → ℕ → ℕ → Type 0
IsAnsweredInVain trace place r =
    (x : Response)
    × AnswersAt trace place r x
    × (¬ IsAskedBefore trace place r ⊎ IsAnsweredBefore trace place r)

-- The first event that doesn't fit has this id.
pub record IsFirstMisfit (trace : List TraceEvent) (r : ℕ) : Type 0 where
  pub place : ℕ
  pub before : (k : ℕ) → k < place → IsFitting trace k
  pub here : IsAskedAgain trace place r ⊎ IsAnsweredInVain trace place r

-- Each event fits, and the first request that was never answered has this id.
pub record IsFirstUnanswered (trace : List TraceEvent) (r : ℕ) : Type 0 where
  pub fitting : (k : ℕ) → IsFitting trace k
  pub place : ℕ
  pub request : Request
  pub asks : AsksAt trace place r request
  pub unanswered : ¬ IsAnswered trace r
  pub before : (k s : ℕ) (q : Request) → k < place → AsksAt trace k s q → IsAnswered trace s

-- None of a balanced trace; of another one, the id that names its fault.
abbrev pub IsFirstFault : List TraceEvent → Option ℕ → Type 0
IsFirstFault trace None = IsBalanced trace
IsFirstFault trace (Some r) =
    ¬ IsBalanced trace × (IsFirstMisfit trace r ⊎ IsFirstUnanswered trace r)

-- There is one answer for each trace.
abbrev pub IsOneFault : Type 0
IsOneFault =
    (trace : List TraceEvent) (o p : Option ℕ) → IsFirstFault trace o → IsFirstFault trace p → o ≡ p
