-- What is told of a sink, and what calls do to it.
use Rattle.std.specs.Prelude.{◌≡◌, ℕ, Bool, true, false, List, [], take, Option, Some, None, Result, Ok, Err}
use Rattle.outside.specs.Counts.{next_count, RisesWhere}
use Rattle.outside.specs.Streams.{IsTakenFrom, and_then, Extends}
use Rattle.outside.specs.declared.fault.Fault.{Fault}
use Rattle.outside.specs.declared.fault.Fault.TheVariants.{Failed, Memory}

-- The bytes written so far, where that is told, how often the sink has failed, and whether it is
-- told that it never fails.
pub record SinkTold : Type 0 where
  pub written : Option (List ℕ)
  pub faults : ℕ
  pub never_fails : Bool

-- nothing written yet
abbrev pub new_sink : Bool → SinkTold
new_sink never_fails = record { written = Some []; faults = 0; never_fails = never_fails }

-- no more than the count
abbrev pub count_alone : ℕ → SinkTold
count_alone faults = record { written = None; faults = faults; never_fails = false }

-- these bytes behind those written
abbrev pub with_written : List ℕ → SinkTold → SinkTold
with_written bytes told = record told { written = and_then told.written bytes }

-- one more fault
abbrev pub with_fault : SinkTold → SinkTold
with_fault told = record told { faults = next_count told.faults }

-- A write of bytes from the front of these. Refused, none is taken.
abbrev pub IsSinkWrite : SinkTold → SinkTold → List ℕ → Result ℕ Fault → Type 0
IsSinkWrite old new bytes (Ok count) =
    IsTakenFrom bytes count × (new ≡ with_written (take count bytes) old)
IsSinkWrite old new bytes (Err Failed) = (new ≡ with_fault old) × (old.never_fails ≡ false)
IsSinkWrite old new bytes (Err Memory) = new ≡ old

-- Any number of writes, of which one failed just where this holds.
pub record UsesSink (old new : SinkTold) (failed : Type 0) : Type 0 where
  pub written : Extends old.written new.written
  pub faults : RisesWhere old.faults new.faults failed
  pub as_told : new.never_fails ≡ old.never_fails
  pub never_failed : old.never_fails ≡ true → ¬ failed
