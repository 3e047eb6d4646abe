use Rattle.period.specs.declared.report.Report.{Report}
use Rattle.audit_meaning.specs.LogFaults.{if_without_count}
use Rattle.log_checker.specs.Counting.{IsCounted}
use Rattle.log_checker.proofs.Firsts.{NoneBelow}
use Rattle.log_checker.proofs.counting.OperationCounts.check_requests.Given as goal

abbrev pub invariant-loop-place : goal.invariant-loop-place
invariant-loop-place l = (report : Report) → IsCounted report l.self → NoneBelow (if_without_count report) l.trace l.place
