-- How many nodes a report evaluates.
use Rattle.std.specs.Prelude.{◌≡◌, ◌≤◌, ℕ, List, [], ◌∷◌, None}
use Rattle.script_tree.specs.Objects.{Objects}
use Rattle.script_tree.specs.Programs.{Program}
use Rattle.period.specs.declared.schedule.Moment.{Moment}
use Rattle.period.specs.declared.trace.TraceEvent.{TraceEvent}
use Rattle.period.specs.declared.report.Report.{Report}
use Rattle.audit_meaning.specs.Groups.{cost_of_group, group_fault, steps_of_all}
use Rattle.audit_meaning.specs.Verdicts.{verdict}
use Rattle.audit_meaning.specs.declared.verdict.Verdict.TheVariants.{Accepted}

-- Where a report is accepted, at most as many nodes are evaluated as all requests spend steps.
abbrev pub EvaluatedIsAtMostPlain : Type 0
EvaluatedIsAtMostPlain = (program : Program) (start : Objects) (trace : List TraceEvent) (report : Report) (schedule : List Moment) (evaluated steps : ℕ)
    → verdict program start trace report ≡ Accepted schedule evaluated steps → evaluated ≤ steps

-- A group of one member with which nothing is wrong costs the steps that the member spends.
abbrev pub OneMemberCostsItsSteps : Type 0
OneMemberCostsItsSteps = (program : Program) (start : Objects) (trace : List TraceEvent) (report : Report) (number rid : ℕ)
    → group_fault program start trace report number (rid ∷ []) ≡ None
    → cost_of_group program start trace report (rid ∷ []) ≡ steps_of_all program start trace report (rid ∷ [])
