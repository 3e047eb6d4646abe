-- The law of the map from operations to the places of their entries.
use Rattle.std.specs.Prelude.{◌≡◌, ◌↔◌, ◌≤◌, ℕ, List, Some, None, is_some, IsTrue}
use Rattle.basis.specs.Lists.{nth}
use Rattle.script_tree.specs.Objects.{Objects}
use Rattle.script_tree.specs.Programs.{Program}
use Rattle.script_tree.specs.Requests.{Request}
use Rattle.period.specs.Traces.{request_of}
use Rattle.period.specs.declared.trace.TraceEvent.{TraceEvent}
use Rattle.period.specs.declared.report.Log.{Log}
use Rattle.period.specs.declared.report.LogEntry.{LogEntry}
use Rattle.period.specs.declared.report.Report.{Report}
use Rattle.audit_meaning.specs.LogFaults.{log_fault}
use Rattle.audit_meaning.specs.Spots.{count_of}
use Rattle.log_checker.specs.OpMaps.{IsMapOf, place_in}
use Rattle.log_checker.specs.declared.op_map.OpMap.{OpMap}

-- The trace has this request, and the report counts so many operations of it or more.
pub record IsOperation (trace : List TraceEvent) (report : Report) (r k : ℕ) : Type 0 where
  pub request : Request
  pub asked : request_of trace r ≡ Some request
  pub positive : 1 ≤ k
  pub counted : k ≤ count_of report r

-- This entry stands at a position of a log.
pub record IsEntryAt (logs : List Log) (place : ℕ × ℕ) (entry : LogEntry) : Type 0 where
  pub log : Log
  pub stands : nth logs place.0 ≡ Some log
  pub holds : nth log.entries place.1 ≡ Some entry

-- The map takes the operations of the requests, and nothing else, one-to-one onto the entries of the logs.
pub record FindsAll (trace : List TraceEvent) (report : Report) (map : OpMap) : Type 0 where
  pub operations : (r k : ℕ) → IsTrue (is_some (place_in map r k)) ↔ IsOperation trace report r k
  pub entries : (r k : ℕ) (place : ℕ × ℕ) → (place_in map r k ≡ Some place)
      ↔ ((entry : LogEntry) × IsEntryAt report.logs place entry × (entry.rid ≡ r) × (entry.number ≡ k))
  pub once : (r k a b : ℕ) (place : ℕ × ℕ) → place_in map r k ≡ Some place → place_in map a b ≡ Some place → (r ≡ a) × (k ≡ b)

-- So is the map of a report with whose counts and logs nothing is wrong.
abbrev pub MapFindsAll : Type 0
MapFindsAll = (program : Program) (start : Objects) (trace : List TraceEvent) (report : Report) (map : OpMap)
    → log_fault program start trace report ≡ None → IsMapOf report map → FindsAll trace report map
