use Rattle.std.proofs.Common.{◌≡◌, ℕ, List, reverse}
use Rattle.basis.specs.Lists.{or_else}
use Rattle.script_fit.proofs.TableRows.{AreRows}
use Rattle.object_tables.specs.Keys.{row_at}
use Rattle.versioned_cells.specs.Versions.{AreAllUntil, held_at}
use Rattle.versioned_tables.proofs.Building.{IsFresh, RowsChange}
use Rattle.versioned_tables.proofs.tables.histories_of.Given as goal

abbrev pub invariant-loop-row : goal.invariant-loop-row
invariant-loop-row l = record {
  rows : (p : ℕ) (k : List ℕ) → or_else (row_at k l.row-iterator) (held_at p (reverse l.histories.items) k) ≡ row_at k l.fn.rows;
  are : (width : ℕ) × AreRows width l.row-iterator;
  until : AreAllUntil 0 (reverse l.histories.items);
  fresh : IsFresh l.row-iterator (reverse l.histories.items);
  changes : RowsChange (reverse l.histories.items);
}
