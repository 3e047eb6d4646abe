-- The files of a recording: what they tell is a history of its jobs.
use Rattle.std.specs.Prelude.{◌≡◌, ℕ, ◌≤◌, ◌<◌, List, length, Result}
use Rattle.basis.specs.UnlessMemory.{UnlessMemory}
use Rattle.basis.specs.declared.or_memory.OrMemory.{OrMemory}
use Rattle.script_tree.specs.declared.limits.TheConstants.{MOST_REQUESTS}
use Rattle.wire.specs.Files.{Format, Spells, IsFileWithin, file_spelling}
use Rattle.wire.specs.declared.limits.TheConstants.{MOST_FILE_BYTES}
use Rattle.trace_format.specs.Events.{trace_format}
use Rattle.report_format.specs.Reports.{report_format, records_of}
use Rattle.history.specs.Arrivals.{arrivals}
use Rattle.history.specs.TraceOf.{trace_of}
use Rattle.history.specs.ReportOf.{report_of}
use Rattle.history.specs.declared.happening.Happening.{Happening}
use Rattle.trace_and_report.specs.declared.recorded.Recorded.{Recorded}
use Rattle.trace_and_report.specs.declared.recorded.TooLong.{TooLong}
use Rattle.trace_and_report.specs.declared.recorded.TooLong.TheVariants as past

-- ---- files

-- The bytes are the file of the trace. Where there are no more requests than a trace may have, they are read as it.
pub record IsTraceFile (history : List Happening) (bytes : List ℕ) : Type 0 where
  pub within : IsFileWithin trace_format MOST_FILE_BYTES (trace_of history) bytes
  pub read_again : length (arrivals history) ≤ MOST_REQUESTS → Spells trace_format bytes (trace_of history)

-- The bytes are the file of the report, and are read as it.
pub record IsReportFile (history : List Happening) (bytes : List ℕ) : Type 0 where
  pub within : IsFileWithin report_format MOST_FILE_BYTES (records_of (report_of history)) bytes
  pub read_again : Spells report_format bytes (records_of (report_of history))

-- The file of these would be longer than a file may be.
abbrev pub IsTooLong : {A : Type 0} → Format A → List A → Type 0
IsTooLong format items = MOST_FILE_BYTES < length (file_spelling format items)

-- the file of the trace of this history would be longer than a file may be
abbrev pub TraceIsTooLong : List Happening → Type 0
TraceIsTooLong history = IsTooLong trace_format (trace_of history)

-- the file of its report would be longer than a file may be
abbrev pub ReportIsTooLong : List Happening → Type 0
ReportIsTooLong history = IsTooLong report_format (records_of (report_of history))

-- ---- recordings

-- the files of the history, and how many requests and groups there are
pub record AreFilesOf (history : List Happening) (recorded : Recorded) : Type 0 where
  pub trace : IsTraceFile history recorded.trace.items
  pub report : IsReportFile history recorded.report.items
  pub requests : recorded.requests ≡ length (arrivals history)
  pub groups : recorded.groups ≡ length (report_of history).groups

-- The first of the two files that is too long is this one.
abbrev pub HasTooLong : List Happening → TooLong → Type 0
HasTooLong history past.Trace = TraceIsTooLong history
HasTooLong history past.Report = ¬ TraceIsTooLong history × ReportIsTooLong history

-- The files of such a history, or which of them is too long, unless memory ran out.
abbrev pub IsRecorded : (List Happening → Type 0) → Result Recorded (OrMemory TooLong) → Type 0
IsRecorded IsRun result =
    UnlessMemory
    (λ recorded. (history : List Happening) × IsRun history × AreFilesOf history recorded)
    (λ which. (history : List Happening) × IsRun history × HasTooLong history which)
    result
