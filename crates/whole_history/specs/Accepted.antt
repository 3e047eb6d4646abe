-- What an audit says of the trace and the report of a history.
use Rattle.std.specs.Prelude.{List}
use Rattle.script_tree.specs.Objects.{Objects}
use Rattle.script_tree.specs.Programs.{Program}
use Rattle.period.specs.declared.trace.TraceEvent.{TraceEvent}
use Rattle.script_check.specs.Validity.{IsValid}
use Rattle.period.specs.declared.report.Report.{Report}
use Rattle.history.specs.ReportOf.{report_of}
use Rattle.history.specs.Rooms.{IsLegal, IsClosed}
use Rattle.history.specs.TraceOf.{trace_of}
use Rattle.history.specs.declared.happening.Happening.{Happening}
use Rattle.audit_meaning.specs.Verdicts.{verdict}
use Rattle.audit_completeness.specs.Completeness.{IsAccepted}

-- This trace is accepted with the report of the history, where a valid program allows the history and no request is left open.
abbrev pub IsAcceptedTrace : List Happening → List TraceEvent → Type 0
IsAcceptedTrace history trace =
    (program : Program) (start : Objects) → IsValid program → IsLegal program start history → IsClosed start history
    → IsAccepted (verdict program start trace (report_of history))

-- The same of this report, with the trace of the history.
abbrev pub IsAcceptedReport : List Happening → Report → Type 0
IsAcceptedReport history report =
    (program : Program) (start : Objects) → IsValid program → IsLegal program start history → IsClosed start history
    → IsAccepted (verdict program start (trace_of history) report)
