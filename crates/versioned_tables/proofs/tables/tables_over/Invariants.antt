use Rattle.std.proofs.Common.{◌≡◌, take, length}
use Rattle.versioned_tables.specs.Standing.{AreFrom, AllChange, AreFound}
use Rattle.versioned_tables.specs.OverTime.{TellsTables, over_time}
use Rattle.versioned_tables.proofs.tables.tables_over.Given as goal

abbrev pub invariant-loop-entry : goal.invariant-loop-entry
invariant-loop-entry l = record {
  count_is : l.position ≡ l.entry-index;
  tells : TellsTables (take l.entry-index l.entries) l.start (over_time l.widths l.tables.items);
  from : AreFrom l.entry-index l.tables.items;
  changes : AllChange l.tables.items;
  found : AreFound l.tables.items l.found.items;
  many : length l.found.items ≡ l.entry-index;
  count : length l.tables.items ≡ length l.widths;
}
