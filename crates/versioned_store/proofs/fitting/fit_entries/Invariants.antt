use Rattle.std.proofs.Common.{◌≡◌, ◌<◌, ℕ, Some}
use Rattle.basis.specs.Lists.{nth}
use Rattle.period.specs.declared.report.LogEntry.{LogEntry}
use Rattle.object_set.specs.Applied.{FitsSet, op_of}
use Rattle.versioned_store.proofs.fitting.fit_entries.Given as goal

abbrev pub invariant-loop-entry : goal.invariant-loop-entry
invariant-loop-entry l = (p : ℕ) (e : LogEntry) → p < l.entry-index → nth l.entries p ≡ Some e → FitsSet l.start (op_of l.object e.act)
