-- The verdict on a report that is in its grammar.
use Rattle.std.specs.Prelude.{ℕ, List, map, Option, Some, None}
use Rattle.basis.specs.Lists.{or_else}
use Rattle.script_tree.specs.Objects.{Objects}
use Rattle.script_tree.specs.Programs.{Program}
use Rattle.period.specs.declared.schedule.Moment.{Moment}
use Rattle.period.specs.declared.trace.TraceEvent.{TraceEvent}
use Rattle.period.specs.declared.report.Report.{Report}
use Rattle.audit_meaning.specs.Cycles.{cycle_of}
use Rattle.audit_meaning.specs.GroupFaults.{members, grouping_fault}
use Rattle.audit_meaning.specs.Groups.{unsound_group, steps_of_all, cost_of_all}
use Rattle.audit_meaning.specs.LogFaults.{log_fault}
use Rattle.audit_meaning.specs.Nodes.{Node, moment}
use Rattle.audit_meaning.specs.Orders.{order_of}
use Rattle.audit_meaning.specs.declared.reason.Reason.{Reason}
use Rattle.audit_meaning.specs.declared.reason.Reason.TheVariants.{Cycle}
pub use Rattle.audit_meaning.specs.declared.verdict.Verdict.{Verdict}
pub use Rattle.audit_meaning.specs.declared.verdict.Verdict.TheVariants.{Accepted, Rejected}

-- the nodes in order as a schedule
abbrev pub schedule_by : Report → List Node → List Moment
schedule_by report xs = map (moment report) xs

-- the steps that all members spend
unfoldable pub plain_steps : Program → Objects → List TraceEvent → Report → ℕ
plain_steps program start trace report = steps_of_all program start trace report (members report)

-- the nodes that all groups evaluate, where they are sound
unfoldable pub evaluated_nodes : Program → Objects → List TraceEvent → Report → ℕ
evaluated_nodes program start trace report = cost_of_all program start trace report report.groups

-- The first fault of counts and logs counts, then that there is no order, then a fault of the groups.
abbrev pub judged : Option Reason → (cycle : List Node) → Option (List Node) → Option Reason → Report → (evaluated steps : ℕ) → Verdict
judged (Some reason) cycle order later report evaluated steps = Rejected reason
judged None cycle None later report evaluated steps = Rejected (Cycle cycle)
judged None cycle (Some xs) (Some reason) report evaluated steps = Rejected reason
judged None cycle (Some xs) None report evaluated steps = Accepted (schedule_by report xs) evaluated steps

-- the verdict on a report
unfoldable pub verdict : Program → Objects → List TraceEvent → Report → Verdict
verdict program start trace report =
    judged (log_fault program start trace report) (cycle_of trace report) (order_of trace report)
    (or_else (grouping_fault trace report) (unsound_group program start trace report)) report
    (evaluated_nodes program start trace report) (plain_steps program start trace report)
