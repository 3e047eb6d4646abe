use Rattle.std.proofs.Common.{◌≡◌, take}
use Rattle.object_cells.specs.Cells.{held}
use Rattle.versioned_cells.specs.Versions.{AreAllUntil}
use Rattle.versioned_cells.specs.Logs.{TellsStore}
use Rattle.versioned_cells.proofs.store.store_histories.Given as goal

abbrev pub invariant-loop-entry : goal.invariant-loop-entry
invariant-loop-entry l = record {
  count : l.since ≡ l.entry-index;
  tells : TellsStore (take l.entry-index l.entries) (held l.store) l.histories;
  until : AreAllUntil l.entry-index l.histories;
}
