use Rattle.std.proofs.Common.{◌≡◌, true}
use Rattle.std.specs.Vec.Iter.{into_iter_items}
use Rattle.state_file.specs.Faults.{are_rows_within_limits}
use Rattle.state_file.specs.Puts.{ChangesTables}
use Rattle.state_file.specs.Stored.{with_rows}
use Rattle.state_file.proofs.stored.put_rows.Given as goal

abbrev pub invariant-loop-row : goal.invariant-loop-row
invariant-loop-row l = record {
  put : with_rows l.table l.width (into_iter_items l.row-iterator) l.objects.tables.tables
      ≡ with_rows l.table l.width l.fn.rows.items l.fn.objects.tables.tables;
  others : ChangesTables l.fn.objects l.objects;
  within : are_rows_within_limits (into_iter_items l.row-iterator) ≡ true;
}
