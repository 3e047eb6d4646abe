-- The law of completeness.
use Rattle.std.specs.Prelude.{◌≡◌, ℕ, List}
use Rattle.script_tree.specs.Objects.{Objects}
use Rattle.script_tree.specs.Programs.{Program}
use Rattle.period.specs.declared.schedule.Moment.{Moment}
use Rattle.script_check.specs.Validity.{IsValid}
use Rattle.history.specs.ReportOf.{report_of}
use Rattle.history.specs.Rooms.{IsLegal, IsClosed}
use Rattle.history.specs.TraceOf.{trace_of}
use Rattle.history.specs.declared.happening.Happening.{Happening}
use Rattle.audit_meaning.specs.Verdicts.{verdict}
use Rattle.audit_meaning.specs.declared.verdict.Verdict.{Verdict}
use Rattle.audit_meaning.specs.declared.verdict.Verdict.TheVariants.{Accepted, Rejected}

-- The verdict accepts.
abbrev pub IsAccepted : Verdict → Type 0
IsAccepted (Accepted schedule evaluated steps) = Unit {0}
IsAccepted (Rejected reason) = ⊥

-- The trace and the report of a history that a valid program allows, and in which no request is left open, are accepted.
abbrev pub RecordedIsAccepted : Type 0
RecordedIsAccepted = (program : Program) (start : Objects) (history : List Happening)
    → IsValid program
    → IsLegal program start history → IsClosed start history
    → (schedule : List Moment) × (evaluated : ℕ) × (steps : ℕ)
    × (verdict program start (trace_of history) (report_of history) ≡ Accepted schedule evaluated steps)
