use Rattle.period.specs.declared.report.Report.{Report}
use Rattle.audit_meaning.specs.GroupFaults.{members, if_without_group}
use Rattle.log_checker.specs.Grouping.{AreMembers}
use Rattle.log_checker.proofs.Firsts.{NoneBelow}
use Rattle.log_checker.proofs.grouping.check_grouped.Given as goal

abbrev pub invariant-loop-place : goal.invariant-loop-place
invariant-loop-place l = (report : Report) → AreMembers (members report) l.grouped → NoneBelow (if_without_group report) l.trace l.place
