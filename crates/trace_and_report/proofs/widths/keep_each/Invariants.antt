use Rattle.std.proofs.Common.{take}
use Rattle.trace_and_report.specs.Widths.{Each}
use Rattle.trace_and_report.proofs.widths.keep_each.Given as goal

abbrev pub invariant-loop-item : goal.invariant-loop-item
invariant-loop-item g l = Each g.T.Wide.is_wide (take l.item-index l.items)
