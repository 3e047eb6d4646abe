use Rattle.trace_and_report.specs.Grouped.{groups_in}
use Rattle.trace_and_report.proofs.Groups.{lists}
use Rattle.trace_and_report.proofs.Writings.{AreGroupsUnderWay}
use Rattle.trace_and_report.proofs.writing.write_groups.Given as goal

abbrev pub invariant-loop-path : goal.invariant-loop-path
invariant-loop-path l = AreGroupsUnderWay (groups_in l.fn.groups) (lists l._path-iterator) l.fn.out.items l.out.items
