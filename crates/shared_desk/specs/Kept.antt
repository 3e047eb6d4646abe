-- What a desk keeps of its calls.
use Rattle.std.specs.Prelude.{ℕ, List, map, IfSome}
use Rattle.std.specs.declared.snapshot.Snapshot.{Snapshot}
use Rattle.desk.specs.declared.bench.Call.{Call}
use Rattle.desk.specs.Runs.{call}
use Rattle.shared_desk.specs.declared.kept.Kept.{Kept}

module _ {E R : Type 0} where
  -- The call of this event from the seat may be taken in, whatever its reply is.
  abbrev pub MayTake : (Call E R → Type 0) → ℕ → E → Type 0
  MayTake may_take seat event = (reply : R) → may_take (call seat event reply)

module _ {S E R J : Type 0} where
  -- the calls so far
  abbrev pub calls_of : Kept S E R J → List (Call E R)
  calls_of kept = map (λ (c : Snapshot (Call E R)). c.value) kept.calls.items

  -- The journal keeps the calls so far, where there still is one.
  abbrev pub KeepsCalls : (List (Call E R) → J → Type 0) → Kept S E R J → Type 0
  KeepsCalls keeps kept = IfSome kept.journal (keeps (calls_of kept))
