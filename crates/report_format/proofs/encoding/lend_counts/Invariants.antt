use Rattle.std.proofs.Common.{◌≡◌, ◌++◌, map, drop}
use Rattle.report_format.specs.Parts.{AllAllowed}
use Rattle.report_format.specs.Reports.{count_field}
use Rattle.report_format.specs.declared.format.ReportRecord.TheVariants as it
use Rattle.report_format.proofs.encoding.lend_counts.Given as goal

-- those that were lent, and those that come
abbrev pub invariant-loop-count : goal.invariant-loop-count
invariant-loop-count l = record {
  allowed : AllAllowed count_field (drop l.count-index l.counts);
  lent : l.records.items ++ map it.Count (drop l.count-index l.counts) ≡ l.fn.records.items ++ map it.Count l.counts;
}
