use Rattle.std.proofs.Common.{◌≡◌, ◌++◌, map, drop}
use Rattle.report_format.specs.Parts.{AllAllowed}
use Rattle.report_format.specs.Reports.{group_field}
use Rattle.report_format.specs.declared.format.ReportRecord.TheVariants as it
use Rattle.report_format.proofs.encoding.lend_groups.Given as goal

-- those that were lent, and those that come
abbrev pub invariant-loop-group : goal.invariant-loop-group
invariant-loop-group l = record {
  allowed : AllAllowed group_field (drop l.group-index l.groups);
  lent : l.records.items ++ map it.Group (drop l.group-index l.groups) ≡ l.fn.records.items ++ map it.Group l.groups;
}
