-- The law on the length of schedules.
use Rattle.std.specs.Prelude.{◌≡◌, ℕ, ◌≤◌, List, length}
use Rattle.script_tree.specs.Objects.{Objects}
use Rattle.script_tree.specs.Programs.{Program}
use Rattle.period.specs.Traces.{IsBalanced}
use Rattle.script_tree.specs.declared.limits.TheConstants.{MOST_REQUESTS}
use Rattle.period.specs.declared.schedule.Moment.{Moment}
use Rattle.period.specs.declared.trace.TraceEvent.{TraceEvent}
use Rattle.wire.specs.Files.{file_spelling}
use Rattle.wire.specs.declared.limits.TheConstants.{MOST_FILE_BYTES, MOST_SCHEDULE_BYTES}
use Rattle.trace_format.specs.Events.{request_count}
use Rattle.schedule_format.specs.Moments.{schedule_format}
use Rattle.period.specs.declared.report.Report.{Report}
use Rattle.report_format.specs.Reports.{report_format, records_of}
use Rattle.audit_meaning.specs.Verdicts.{verdict}
use Rattle.audit_meaning.specs.declared.verdict.Verdict.TheVariants.{Accepted}

-- Where a report is accepted whose file is within its limit, the file of the schedule is within its own.
abbrev pub ScheduleFits : Type 0
ScheduleFits =
    (program : Program) (start : Objects) (trace : List TraceEvent) (report : Report)
    (schedule : List Moment) (evaluated steps : ℕ)
    → IsBalanced trace → request_count trace ≤ MOST_REQUESTS
    → length (file_spelling report_format (records_of report)) ≤ MOST_FILE_BYTES
    → verdict program start trace report ≡ Accepted schedule evaluated steps
    → length (file_spelling schedule_format schedule) ≤ MOST_SCHEDULE_BYTES
