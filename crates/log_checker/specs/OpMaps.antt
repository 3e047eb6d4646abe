-- Where operations stand, as the code keeps it.
use Rattle.std.specs.Prelude.{◌≡◌, ℕ, ◌+◌, ◌<◌, false, ◌&&◌, List, take, Option, Some, None, is_none, nat_eq, unwrap_or, if◌then◌else◌}
use Rattle.basis.specs.Lists.{nth, first_answer}
use Rattle.request_tables.specs.OperationTables.{place_of}
use Rattle.period.specs.declared.report.Log.{Log}
use Rattle.period.specs.declared.report.LogEntry.{LogEntry}
use Rattle.period.specs.declared.report.Report.{Report}
use Rattle.audit_meaning.specs.Spots.{Spot, if_named, spot_of}
use Rattle.log_checker.specs.Counting.{IsCounted, operations_of}
use Rattle.log_checker.specs.declared.op_map.OpMap.{OpMap}

-- the number of the log, and the position in it, of an operation of a request
abbrev pub place_in : OpMap → ℕ → ℕ → Option (ℕ × ℕ)
place_in map r k = place_of map.places r k

-- how many operations a request issued; 0 where it has no count
abbrev pub count_in : OpMap → ℕ → ℕ
count_in map r = unwrap_or (operations_of map.counts r) 0

-- Afterwards this operation has this place, and every other one what it had.
abbrev pub PutsPlace : ℕ → ℕ → ℕ × ℕ → OpMap → OpMap → Type 0
PutsPlace r k place old new = (a b : ℕ) → place_in new a b ≡ (if nat_eq r a && nat_eq k b then Some place else place_in old a b)

-- This is the spot of the entry at a position of a log.
pub record IsSpotAt (logs : List Log) (place : ℕ × ℕ) (spot : Spot) : Type 0 where
  pub log : Log
  pub stands : nth logs place.0 ≡ Some log
  pub entry : LogEntry
  pub holds : nth log.entries place.1 ≡ Some entry
  pub is : spot ≡ record { object = log.object; past = take place.1 log.entries; entry = entry }

-- The place is that of the spot, if there is one.
abbrev pub Points : List Log → Option (ℕ × ℕ) → Option Spot → Type 0
Points logs None spot = spot ≡ None
Points logs (Some place) spot = (s : Spot) × (spot ≡ Some s) × IsSpotAt logs place s

-- The map has the first spot of each operation among these.
abbrev pub MapsSpots : List Log → List Spot → OpMap → Type 0
MapsSpots logs earlier map = (r k : ℕ) → Points logs (place_in map r k) (first_answer (if_named r k) earlier)

-- It has the spot of each operation of a report, and the report's counts.
pub record IsMapOf (report : Report) (map : OpMap) : Type 0 where
  pub counts : IsCounted report map.counts
  pub places : (r k : ℕ) → Points report.logs (place_in map r k) (spot_of report r k)

-- these operations have places
abbrev pub HavePlaces : OpMap → ℕ → ℕ → Type 0
HavePlaces map r n = (i : ℕ) → i < n → is_none (place_in map r (1 + i)) ≡ false

-- the first operation, of so many, that has no place
abbrev pub IsFirstMissing : OpMap → ℕ → ℕ → Option ℕ → Type 0
IsFirstMissing map r n None = HavePlaces map r n
IsFirstMissing map r n (Some k) = (i : ℕ) × (i < n) × (k ≡ 1 + i) × (place_in map r (1 + i) ≡ None) × HavePlaces map r i
