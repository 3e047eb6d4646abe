use Rattle.std.proofs.Common.{◌≡◌, ◌++◌, map, drop}
use Rattle.report_format.specs.Parts.{AllAllowed}
use Rattle.report_format.specs.Reports.{log_field}
use Rattle.report_format.specs.declared.format.ReportRecord.TheVariants as it
use Rattle.report_format.proofs.encoding.lend_logs.Given as goal

-- those that were lent, and those that come
abbrev pub invariant-loop-log : goal.invariant-loop-log
invariant-loop-log l = record {
  allowed : AllAllowed log_field (drop l.log-index l.logs);
  lent : l.records.items ++ map it.Log (drop l.log-index l.logs) ≡ l.fn.records.items ++ map it.Log l.logs;
}
