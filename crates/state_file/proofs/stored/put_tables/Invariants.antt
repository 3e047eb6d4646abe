use Rattle.std.proofs.Common.{◌≡◌, true}
use Rattle.std.specs.List.{list_all}
use Rattle.std.specs.Vec.Iter.{into_iter_items}
use Rattle.state_file.specs.Faults.{are_rows_within_limits}
use Rattle.state_file.specs.Puts.{ChangesTables}
use Rattle.state_file.specs.Stored.{with_tables}
use Rattle.state_file.proofs.stored.put_tables.Given as goal

abbrev pub invariant-loop-name : goal.invariant-loop-name
invariant-loop-name l = record {
  put : with_tables l.index.declarations (into_iter_items l.name-iterator) l.objects.tables.tables
      ≡ with_tables l.index.declarations l.fn.tables.items l.fn.objects.tables.tables;
  others : ChangesTables l.fn.objects l.objects;
  within : list_all (λ t. are_rows_within_limits t.1) (into_iter_items l.name-iterator) ≡ true;
}
