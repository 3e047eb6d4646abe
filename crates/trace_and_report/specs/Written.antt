-- The records of a report, written one behind the other.
use Rattle.std.specs.Prelude.{◌≡◌, ℕ, ◌≤◌, ◌<◌, List, [], ◌++◌, map, filter_map, length, Option, Some, None}
use Rattle.script_tree.specs.declared.operation.Object.{Object}
use Rattle.script_tree.specs.declared.path.Path.{Path}
use Rattle.wire.specs.Files.{file_spelling, record_spelling, records_spelling}
use Rattle.wire.specs.declared.limits.TheConstants.{MOST_FILE_BYTES}
use Rattle.trace_format.specs.Events.{trace_format}
use Rattle.period.specs.declared.report.LogEntry.{LogEntry}
use Rattle.report_format.specs.Operations.{IsObject}
use Rattle.report_format.specs.Parts.{AllAllowed}
use Rattle.report_format.specs.Reports.{any_record_field, entry_field, records_of, report_format, IsSpellable}
use Rattle.report_format.specs.Spelled.{Spelled, log_with, spelled}
use Rattle.report_format.specs.declared.format.ReportRecord.{ReportRecord}
use Rattle.report_format.specs.declared.format.ReportRecord.TheVariants as it
use Rattle.history.specs.Names.{Named}
use Rattle.history.specs.ReportOf.{report_in}
use Rattle.history.specs.TraceOf.{trace_in}
use Rattle.trace_and_report.specs.Draft.{HasSpelling, arrival_in, count_at}
use Rattle.trace_and_report.specs.Widths.{Each, IsWide}
use Rattle.trace_and_report.specs.declared.recorded.Recorded.{Recorded}
use Rattle.trace_and_report.specs.declared.recorded.TooLong.{TooLong}
use Rattle.trace_and_report.specs.declared.recorded.TooLong.TheVariants as past

-- These records stand behind the bytes, and each may stand in a report.
pub record AreAdded (records : List ReportRecord) (old new : List ℕ) : Type 0 where
  pub behind : new ≡ old ++ records_spelling report_format records
  pub allowed : AllAllowed any_record_field records

-- The logs stand behind the bytes, and the groups behind these.
pub record AreBehind (logs groups : List ReportRecord) (old new : List ℕ) : Type 0 where
  pub between : List ℕ
  pub logged : AreAdded logs old between
  pub grouped : AreAdded groups between new

-- The report begins with the counts, and the logs and the groups stand behind them.
pub record AreWritten (counts logs groups : List ReportRecord) (report : List ℕ) : Type 0 where
  pub first : List ℕ
  pub counted : AreAdded counts (file_spelling report_format []) first
  pub rest : AreBehind logs groups first report

-- A log stands behind the bytes, and its object and its count are as wide as a report has them.
pub record IsLogWritten (object : Object) (entries : Spelled) (old new : List ℕ) : Type 0 where
  pub named : IsObject object
  pub counted : IsWide entries.count
  pub behind : (es : List LogEntry) → entries ≡ spelled es → new ≡ old ++ record_spelling report_format (it.Log (log_with object es))

-- the records of the counts of these requests
abbrev pub count_records : List (Option ℕ) → List ℕ → List ReportRecord
count_records operations rids = map (λ r. it.Count (count_at operations r)) rids

-- the record of the log of an object
abbrev pub log_record : Object × List LogEntry → ReportRecord
log_record g = it.Log (log_with g.0 g.1)

-- the record of a group
abbrev pub group_record : Path × List ℕ → ReportRecord
group_record g = it.Group g.1

-- Each entry of the log may be spelled.
abbrev pub HasSpellings : Object × List LogEntry → Type 0
HasSpellings g = AllAllowed entry_field g.1

-- They are the files of these names.
pub record AreFiles (names : List Named) (recorded : Recorded) : Type 0 where
  pub trace : recorded.trace.items ≡ file_spelling trace_format (trace_in names)
  pub report : recorded.report.items ≡ file_spelling report_format (records_of (report_in names))
  pub spellings : Each HasSpelling names
  pub spellable : IsSpellable (report_in names)
  pub requests : recorded.requests ≡ length (filter_map arrival_in names)
  pub groups : recorded.groups ≡ length (report_in names).groups

-- The first of them that is longer than a file may be is this one, if any.
abbrev pub TellsTooLong : Recorded → Option TooLong → Type 0
TellsTooLong r None = (length r.trace.items ≤ MOST_FILE_BYTES) × (length r.report.items ≤ MOST_FILE_BYTES)
TellsTooLong r (Some past.Trace) = MOST_FILE_BYTES < length r.trace.items
TellsTooLong r (Some past.Report) = (length r.trace.items ≤ MOST_FILE_BYTES) × (MOST_FILE_BYTES < length r.report.items)
