use Rattle.trace_and_report.specs.Grouped.{groups_in}
use Rattle.trace_and_report.proofs.Groups.{lists}
use Rattle.whole_history.proofs.ReportDrafts.{AreGroupsMade}
use Rattle.whole_history.proofs.reports.groups_from.Given as goal

abbrev pub invariant-loop-path : goal.invariant-loop-path
invariant-loop-path l = AreGroupsMade (groups_in l.fn.groups) (lists l._path-iterator) l.made.items
