use Rattle.trace_and_report.specs.Grouped.{groups_in}
use Rattle.trace_and_report.proofs.Groups.{lists}
use Rattle.whole_history.specs.Drafts.{log_of}
use Rattle.whole_history.proofs.ReportDrafts.{AreMade}
use Rattle.whole_history.proofs.reports.logs_from.Given as goal

abbrev pub invariant-loop-object : goal.invariant-loop-object
invariant-loop-object l = AreMade log_of (groups_in l.fn.logs) (lists l.object-iterator) l.made.items
