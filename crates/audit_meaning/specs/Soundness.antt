-- The law of soundness.
use Rattle.std.specs.Prelude.{◌≡◌, ℕ, List}
use Rattle.script_tree.specs.Objects.{Objects}
use Rattle.script_tree.specs.Programs.{Program}
use Rattle.period.specs.Traces.{IsBalanced}
use Rattle.period.specs.declared.schedule.Moment.{Moment}
use Rattle.period.specs.declared.trace.TraceEvent.{TraceEvent}
use Rattle.period.specs.declared.report.Report.{Report}
use Rattle.script_meaning.specs.Explains.{Explains}
use Rattle.audit_meaning.specs.Verdicts.{verdict, Accepted}

-- Where a report is accepted, whatever it says, its schedule explains the trace.
abbrev pub AcceptedExplains : Type 0
AcceptedExplains = (program : Program) (start : Objects) (trace : List TraceEvent) (report : Report) (schedule : List Moment) (evaluated steps : ℕ)
    → IsBalanced trace → verdict program start trace report ≡ Accepted schedule evaluated steps → Explains program start trace schedule
