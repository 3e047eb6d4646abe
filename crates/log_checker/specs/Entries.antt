-- What is checked of an entry.
use Rattle.std.specs.Prelude.{◌≡◌, ℕ, ℤ, List, ◌++◌, Option, Some, Result, IfOk}
use Rattle.basis.specs.Lists.{nth, first_answer}
use Rattle.basis.specs.declared.or_memory.OrMemory.{OrMemory}
use Rattle.script_tree.specs.Objects.{Cell, Objects, reading, none}
use Rattle.script_tree.specs.Programs.{Program}
use Rattle.script_tree.specs.declared.operation.Act.{Act}
use Rattle.script_tree.specs.declared.operation.Act.TheVariants.{Read, Write, Get, Put, Remove, Transact, Now, Roll}
use Rattle.script_tree.specs.declared.operation.Choice.{Choice}
use Rattle.script_tree.specs.declared.operation.Choice.TheVariants.{Nothing, Number}
use Rattle.script_tree.specs.declared.operation.Object.{Object}
use Rattle.script_tree.specs.declared.operation.Object.TheVariants.{Register, Store, Tables, Clock, Dice}
use Rattle.period.specs.declared.trace.TraceEvent.{TraceEvent}
use Rattle.object_set.specs.ObjectSets.{HeldObjects, IsSetOf, objects_of}
use Rattle.period.specs.declared.report.Log.{Log}
use Rattle.period.specs.declared.report.LogEntry.{LogEntry}
use Rattle.period.specs.declared.report.Report.{Report}
use Rattle.audit_meaning.specs.Lists.{last, befores_from}
use Rattle.audit_meaning.specs.LogFaults.{entry_fault}
use Rattle.audit_meaning.specs.Spots.{Spot, spots_in}
use Rattle.period.specs.LeftBy.{left_by}
use Rattle.audit_meaning.specs.declared.reason.Reason.{Reason}
use Rattle.log_checker.specs.Counting.{IsCounted}
use Rattle.log_checker.specs.EntryFaults.{first_wrong}
use Rattle.log_checker.specs.Faults.{IsFaultOr}
use Rattle.log_checker.specs.OpMaps.{MapsSpots}
use Rattle.log_checker.specs.declared.entry_fault.EntryFault.{EntryFault}
use Rattle.log_checker.specs.declared.op_map.OpMap.{OpMap}

-- what the object of an act holds, where the clock read this last
abbrev pub Awaits : ℤ → Act → Cell → Type 0
Awaits time Read cell = Unit {0}
Awaits time (Write d) cell = Unit {0}
Awaits time (Get k) cell = Unit {0}
Awaits time (Put k d) cell = Unit {0}
Awaits time (Remove k) cell = Unit {0}
Awaits time (Transact ss) cell = Unit {0}
Awaits time Now cell = cell ≡ reading time
Awaits time (Roll bound) cell = cell ≡ none

-- what an object holds, where it is the clock and read this last, or the dice
abbrev pub Tracks : Object → ℤ → Cell → Type 0
Tracks (Register x) time cell = Unit {0}
Tracks (Store s) time cell = Unit {0}
Tracks Tables time cell = Unit {0}
Tracks Clock time cell = cell ≡ reading time
Tracks Dice time cell = cell ≡ none

-- the clock's reading after this choice
abbrev pub next_reading : ℤ → Choice → ℤ
next_reading time Nothing = time
next_reading time (Number n) = n

-- an entry of an object, behind those before it
abbrev pub spot_at : Object → List LogEntry → LogEntry → Spot
spot_at object past entry = record { object = object; past = past; entry = entry }

-- The map has the counts of the report, and the first spot of each operation among these.
pub record Knows (report : Report) (earlier : List Spot) (map : OpMap) : Type 0 where
  pub counts : IsCounted report map.counts
  pub places : MapsSpots report.logs earlier map

-- Before an entry the map has those before it in the report; the previous entry and the clock's time are those of its log.
pub record IsKnownBefore (start : Objects) (report : Report) (earlier : List Spot) (spot : Spot) (map : OpMap) (previous : Option LogEntry)
    (time : ℤ) : Type 0 where
  pub knows : Knows report earlier map
  pub tracks : Tracks spot.object time (left_by spot.past (start spot.object))
  pub before : previous ≡ last spot.past

-- The first that is wrong with an entry is found, whatever the program is and whatever stands before the entry.
abbrev pub FindsFault : {E : Type 0} → HeldObjects → List TraceEvent → OpMap → Object → Option LogEntry → LogEntry → ℤ → Result (Option EntryFault) E → Type 0
FindsFault set trace map object before entry time result =
    (program : Program) (report : Report) (earlier : List Spot) (past : List LogEntry) → IsSetOf program set
    → IsKnownBefore (objects_of set) report earlier (spot_at object past entry) map before time
    → IfOk result (λ fault. fault ≡ first_wrong program (objects_of set) trace report earlier (spot_at object past entry))

-- the first that is wrong with these entries, behind others
abbrev pub fault_behind : Program → Objects → List TraceEvent → Report → List Spot → List Spot → Option Reason
fault_behind program start trace report earlier spots = first_answer (entry_fault program start trace report) (befores_from earlier spots)

-- The first fault of a log's entries is found, whatever stands before the log; where there is none, the map has the entries too.
abbrev pub ReadsLog : {A : Type 0} → HeldObjects → List TraceEvent → Log → ℕ → OpMap → OpMap → Result A (OrMemory Reason) → Type 0
ReadsLog set trace log number old new result =
    (program : Program) (report : Report) (earlier : List Spot) → IsSetOf program set → Knows report earlier old → nth report.logs number ≡ Some log
    → IsFaultOr (fault_behind program (objects_of set) trace report earlier (spots_in log)) (λ x. Knows report (earlier ++ spots_in log) new) result
