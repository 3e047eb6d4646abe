-- The verdict on the trace and the report of a history.
use Rattle.std.proofs.Common.{◌≡◌, List, Result, Ok, Err, IfOk, sym, subst}
use Rattle.std.specs.declared.alloc.AllocError.{AllocError}
use Rattle.script_tree.specs.Objects.{Objects}
use Rattle.script_tree.specs.Programs.{Program}
use Rattle.period.specs.declared.trace.TraceEvent.{TraceEvent}
use Rattle.script_check.specs.Validity.{IsValid}
use Rattle.period.specs.declared.report.Report.{Report}
use Rattle.history.specs.ReportOf.{report_of}
use Rattle.history.specs.Rooms.{IsLegal, IsClosed}
use Rattle.history.specs.TraceOf.{trace_of}
use Rattle.history.specs.declared.happening.Happening.{Happening}
use Rattle.audit_meaning.specs.Verdicts.{verdict}
use Rattle.audit_completeness.specs.Completeness.{RecordedIsAccepted, IsAccepted}
use Rattle.whole_history.specs.Accepted.{IsAcceptedTrace, IsAcceptedReport}

accepted : RecordedIsAccepted → (program : Program) (start : Objects) (history : List Happening) → IsValid program
    → IsLegal program start history → IsClosed start history
    → IsAccepted (verdict program start (trace_of history) (report_of history))
accepted law program start history valid legal closed = subst IsAccepted (sym (law program start history valid legal closed).3) tt

pub trace_accepted : RecordedIsAccepted → (history : List Happening) (trace : List TraceEvent) → trace ≡ trace_of history → IsAcceptedTrace history trace
trace_accepted law history trace is = λ program start valid legal closed.
    subst (λ t. IsAccepted (verdict program start t (report_of history))) (sym is) (accepted law program start history valid legal closed)

report_accepted : RecordedIsAccepted → (history : List Happening) (report : Report) → report ≡ report_of history → IsAcceptedReport history report
report_accepted law history report is = λ program start valid legal closed.
    subst (λ r. IsAccepted (verdict program start (trace_of history) r)) (sym is) (accepted law program start history valid legal closed)

pub report_told : RecordedIsAccepted → (history : List Happening) (result : Result Report AllocError) → IfOk result (λ report. report ≡ report_of history)
    → IfOk result (IsAcceptedReport history)
report_told law history (Ok report) is = report_accepted law history report is
report_told law history (Err e) is = tt
