use Rattle.std.proofs.Common.{drop, ◌↔◌}
use Rattle.script_fit.specs.FitsTransaction.{FitColumns}
use Rattle.object_tables.proofs.fitting.fit_columns.Given as goal

-- what is left decides
abbrev pub invariant-loop-column : goal.invariant-loop-column
invariant-loop-column l = FitColumns l.width (drop l.column-index l.columns) ↔ FitColumns l.width l.columns
