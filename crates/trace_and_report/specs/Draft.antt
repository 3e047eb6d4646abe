-- What is kept of a history to write its files.
use Rattle.std.specs.Prelude.{◌≡◌, ℕ, ◌+◌, List, [], ◌∷◌, ◌++◌, map, filter_map, length, Option, Some, None, Result, OnOk, unwrap_or, nat_eq, if◌then◌else◌}
use Rattle.std.specs.declared.alloc.AllocError.{AllocError}
use Rattle.script_tree.specs.Objects.{is_same}
use Rattle.script_tree.specs.Requests.{IsRequestWithinLimits}
use Rattle.script_tree.specs.declared.operation.Act.{Act}
use Rattle.script_tree.specs.declared.operation.Choice.{Choice}
use Rattle.script_tree.specs.declared.operation.Object.{Object}
use Rattle.script_tree.specs.declared.operation.Op.{Op}
use Rattle.period.specs.declared.trace.TraceEvent.{TraceEvent}
use Rattle.period.specs.declared.trace.TraceEvent.TheVariants.{Asked, Answered}
use Rattle.wire.specs.Files.{file_spelling}
use Rattle.trace_format.specs.Events.{trace_format, IsResponse}
use Rattle.period.specs.declared.report.Count.{Count}
use Rattle.period.specs.declared.report.LogEntry.{LogEntry}
use Rattle.report_format.specs.Reports.{entry_field}
use Rattle.report_format.specs.Spelled.{Spelled, spelled}
use Rattle.history.specs.Names.{Named, came, did, went}
use Rattle.script_tree.specs.Paths.{same_path}
use Rattle.history.specs.ReportOf.{did_in, object_in, entry_in, path_in, member_in}
use Rattle.history.specs.Seats.{at_seat}
use Rattle.history.specs.TraceOf.{trace_in}
use Rattle.trace_and_report.specs.Grouped.{entries_in, groups_in, grouped}
use Rattle.trace_and_report.specs.Widths.{Each, IsWide}
use Rattle.trace_and_report.specs.declared.draft.Draft.{Draft}

-- of an arrival, the request's id
abbrev pub arrival_in : Named → Option ℕ
arrival_in (came r request) = Some r
arrival_in (did r k op choice) = None
arrival_in (went r response path) = None

-- how many operations a request did, of a list by id
abbrev pub counted : List (Option ℕ) → ℕ → ℕ
counted operations r = unwrap_or (at_seat operations r) 0

-- one more of this request
abbrev pub one_more_of : ℕ → (ℕ → ℕ) → ℕ → ℕ
one_more_of rid operations r = if nat_eq r rid then operations r + 1 else operations r

-- the count of a request, of a list by id
abbrev pub count_at : List (Option ℕ) → ℕ → Count
count_at operations r = record { rid = r; operations = counted operations r }

-- the entry of an operation in the log of its object
abbrev pub entry_of : ℕ → ℕ → Op → Choice → LogEntry
entry_of r k op choice = record { rid = r; number = k; act = op.act; choice = choice }

-- the operation that is this act at this object
abbrev pub at_object : Object → Act → Op
at_object object act = record { object = object; act = act }

-- an object with its log, as that is kept
abbrev pub spelled_log : Object × List LogEntry → Object × Spelled
spelled_log g = (g.0, spelled g.1)

-- What is spelled of it has its widths and is within the limits.
abbrev pub HasSpelling : Named → Type 0
HasSpelling (came r request) = IsWide r × IsRequestWithinLimits request
HasSpelling (did r k op choice) = entry_field.allows (entry_of r k op choice)
HasSpelling (went r response path) = IsWide r × IsResponse response

-- the same of an event
abbrev pub IsSpellableEvent : TraceEvent → Type 0
IsSpellableEvent (Asked rid request) = IsWide rid × IsRequestWithinLimits request
IsSpellableEvent (Answered rid response) = IsWide rid × IsResponse response

-- It is of these names.
pub record IsOfNames (names : List Named) (draft : Draft) : Type 0 where
  pub trace : draft.trace.items ≡ file_spelling trace_format (trace_in names)
  pub arrived : draft.arrived.items ≡ filter_map arrival_in names
  pub operations : (r : ℕ) → counted draft.operations.items r ≡ length (filter_map (did_in r) names)
  pub logs : entries_in draft.logs ≡ map spelled_log (grouped is_same object_in entry_in names)
  pub groups : groups_in draft.groups ≡ grouped same_path path_in member_in names
  pub spellings : Each HasSpelling names

-- It takes in a name more.
abbrev pub TakesIn : Named → Draft → Draft → Result (Unit {0}) AllocError → Type 0
TakesIn named old new result = (names : List Named) → IsOfNames names old → OnOk result (IsOfNames (names ++ named ∷ []) new)
