-- What files of requests and of turns are, and which faults they have, by the JSON tree that their bytes spell.
use Rattle.std.specs.Prelude.{◌≡◌, ℕ, pos, Bool, true, false, List, map, Option}
use Rattle.serde_json.specs.Data as json
use Rattle.script_tree.specs.Requests.{Request}
use Rattle.json_texts.specs.Reading.{IsNoJson, IsJsonOf, HasOtherShape}
use Rattle.workload.specs.Jobs.{jobs_of, are_within_limits}
use Rattle.workload.specs.Seats.{numbers_of, are_seats}
use Rattle.workload.specs.declared.fault.WorkFault.{WorkFault}
use Rattle.workload.specs.declared.fault.WorkFault.TheVariants.{NotJson, OtherShape, BeyondLimit}

-- The bytes are a JSON text of the right shape, which gives this, and nothing passes its limit.
abbrev pub Spells : {A : Type 0} → (json.Data → Option A) → (A → Bool) → List ℕ → A → Type 0
Spells shape is_within bytes given = IsJsonOf shape bytes given × (is_within given ≡ true)

-- The fault with the least kind that the bytes have.
abbrev pub HasFault : {A : Type 0} → (json.Data → Option A) → (A → Bool) → List ℕ → WorkFault → Type 0
HasFault shape is_within bytes NotJson = IsNoJson bytes
HasFault shape is_within bytes OtherShape = HasOtherShape shape bytes
HasFault {A} shape is_within bytes BeyondLimit = (given : A) × IsJsonOf shape bytes given × (is_within given ≡ false)

-- The bytes are an array of jobs, which give these requests.
abbrev pub AreRequests : List ℕ → List Request → Type 0
AreRequests bytes requests = Spells jobs_of are_within_limits bytes requests

-- Of the faults of bytes that are no file of requests, this has the least kind.
abbrev pub HasRequestsFault : List ℕ → WorkFault → Type 0
HasRequestsFault bytes fault = HasFault jobs_of are_within_limits bytes fault

-- The bytes are an array of the numbers of these seats.
abbrev pub AreTurns : List ℕ → List ℕ → Type 0
AreTurns bytes turns = Spells numbers_of are_seats bytes (map pos turns)

-- Of the faults of bytes that are no file of turns, this has the least kind.
abbrev pub HasTurnsFault : List ℕ → WorkFault → Type 0
HasTurnsFault bytes fault = HasFault numbers_of are_seats bytes fault

-- the number by which a fault is printed
abbrev pub fault_kind : WorkFault → ℕ
fault_kind NotJson = 1
fault_kind OtherShape = 2
fault_kind BeyondLimit = 4

-- Bytes spell at most one list, have at most one least fault, and not both.
pub record IsReadOneWay {A : Type 0} (spells : List ℕ → List A → Type 0) (has_fault : List ℕ → WorkFault → Type 0) : Type 0 where
  pub lists : (bytes : List ℕ) (x y : List A) → spells bytes x → spells bytes y → x ≡ y
  pub faults : (bytes : List ℕ) (fault other : WorkFault) → has_fault bytes fault → has_fault bytes other → fault ≡ other
  pub apart : (bytes : List ℕ) (x : List A) (fault : WorkFault) → spells bytes x → has_fault bytes fault → ⊥
