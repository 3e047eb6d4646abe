-- The calls of an object that fail.
use Rattle.std.specs.Prelude.{◌≡◌, ℕ, ◌==◌, ◌↔◌, Bool, List, length, Contains}
use Rattle.outside.specs.Counts.{next_count}
use Rattle.outside.specs.declared.memory.failing.Failing.{Failing}

-- the numbers of the calls that fail
abbrev pub failing_calls : Failing → List ℕ
failing_calls f = f.calls.items

-- the number of the next call
abbrev pub next_call : Failing → ℕ
next_call f = f.next

-- how many calls have failed
abbrev pub fault_count : Failing → ℕ
fault_count f = f.faults

-- whether no call ever fails
abbrev pub is_sure : Failing → Bool
is_sure f = length f.calls.items == 0

-- These calls are to fail, and none was made yet.
pub record IsPlanned (calls : List ℕ) (failing : Failing) : Type 0 where
  pub listed : failing_calls failing ≡ calls
  pub next : next_call failing ≡ 0

-- A call was counted, and failed just where its number is among those that fail.
pub record GoesAsPlanned (old new : Failing) (failed : Type 0) : Type 0 where
  pub fails : failed ↔ Contains (failing_calls old) (next_call old)
  pub calls : failing_calls new ≡ failing_calls old
  pub next : next_call new ≡ next_count (next_call old)

-- Neither the plan nor the calls made have changed.
pub record SamePlan (old new : Failing) : Type 0 where
  pub calls : failing_calls new ≡ failing_calls old
  pub next : next_call new ≡ next_call old
