use Rattle.period.specs.declared.report.Report.{Report}
use Rattle.audit_meaning.specs.LogFaults.{if_without_entry}
use Rattle.log_checker.specs.OpMaps.{IsMapOf}
use Rattle.log_checker.proofs.Firsts.{NoneBelow}
use Rattle.log_checker.proofs.checking.check_operations.Given as goal

abbrev pub invariant-loop-place : goal.invariant-loop-place
invariant-loop-place l = (report : Report) → IsMapOf report l.map → NoneBelow (if_without_entry report) l.trace l.place
