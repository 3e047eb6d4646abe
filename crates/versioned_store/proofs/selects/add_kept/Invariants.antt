use Rattle.std.proofs.Common.{◌≡◌, ℕ, length, Option, Some, IfSome}
use Rattle.std.specs.Prelude.{slice_index_or}
use Rattle.std.specs.Option.{is_some}
use Rattle.basis.specs.Lists.{nth}
use Rattle.script_tree.specs.Datum.{Datum}
use Rattle.period.specs.declared.report.LogEntry.{LogEntry}
use Rattle.versioned_tables.specs.OverTime.{IsAnswerThen}
use Rattle.versioned_store.specs.Tables.{is_own}
use Rattle.versioned_store.proofs.selects.add_kept.Given as goal

abbrev pub invariant-loop-entry : goal.invariant-loop-entry
invariant-loop-entry l = record {
  place : l.position ≡ l.entry-index;
  count : length l.kept.items ≡ l.entry-index;
  own : (p : ℕ) (o : Option Datum) → nth l.kept.items p ≡ Some o → (e : LogEntry) → nth l.entries p ≡ Some e
      → is_some o ≡ is_own e (slice_index_or l.sources p 0) p;
  answers : (p : ℕ) (o : Option Datum) → nth l.kept.items p ≡ Some o → (e : LogEntry) → nth l.entries p ≡ Some e → IfSome o (IsAnswerThen e.act p l.tables);
}
