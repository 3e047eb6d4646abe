use Rattle.std.proofs.Common.{drop, ◌↔◌}
use Rattle.script_fit.specs.FitsTransaction.{FitChanges}
use Rattle.object_tables.proofs.fitting.fit_changes.Given as goal

-- what is left decides
abbrev pub invariant-loop-change : goal.invariant-loop-change
invariant-loop-change l = FitChanges l.width (drop l.change-index l.changes) ↔ FitChanges l.width l.changes
