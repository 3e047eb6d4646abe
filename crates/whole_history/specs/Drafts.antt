-- What is kept of a history to make its trace and its report.
use Rattle.std.specs.Prelude.{◌≡◌, ℕ, List, filter_map, length}
use Rattle.script_tree.specs.Objects.{is_same}
use Rattle.script_tree.specs.Paths.{same_path}
use Rattle.script_tree.specs.declared.operation.Object.{Object}
use Rattle.script_tree.specs.declared.path.Path.{Path}
use Rattle.wire.specs.Files.{file_spelling}
use Rattle.trace_format.specs.Events.{trace_format}
use Rattle.period.specs.declared.report.Log.{Log}
use Rattle.period.specs.declared.report.LogEntry.{LogEntry}
use Rattle.history.specs.Names.{Named}
use Rattle.history.specs.ReportOf.{did_in, object_in, entry_in, path_in, member_in}
use Rattle.history.specs.TraceOf.{trace_in}
use Rattle.trace_and_report.specs.Draft.{arrival_in, counted, IsSpellableEvent}
use Rattle.trace_and_report.specs.Grouped.{groups_in, grouped}
use Rattle.trace_and_report.specs.Widths.{Each}
use Rattle.whole_history.specs.declared.reports.ReportDraft.{ReportDraft}
use Rattle.whole_history.specs.declared.traces.TraceDraft.{TraceDraft}

-- It is the file of the trace, whose events have their widths.
pub record IsTraceDraft (names : List Named) (draft : TraceDraft) : Type 0 where
  pub bytes : draft.bytes.items ≡ file_spelling trace_format (trace_in names)
  pub spellable : Each IsSpellableEvent (trace_in names)

-- It has the parts of the report.
pub record IsReportDraft (names : List Named) (draft : ReportDraft) : Type 0 where
  pub arrived : draft.arrived.items ≡ filter_map arrival_in names
  pub operations : (r : ℕ) → counted draft.operations.items r ≡ length (filter_map (did_in r) names)
  pub logs : groups_in draft.logs ≡ grouped is_same object_in entry_in names
  pub groups : groups_in draft.groups ≡ grouped same_path path_in member_in names

-- an object with its entries, as a log
abbrev pub log_of : Object × List LogEntry → Log
log_of g = record { object = g.0; entries = g.1 }

-- a path with its requests, as a group
abbrev pub members_of : Path × List ℕ → List ℕ
members_of g = g.1
