use Rattle.std.proofs.Common.{◌≡◌, map, drop}
use Rattle.object_tables.specs.Slots.{rows_of}
use Rattle.object_tables.specs.UndoLog.{is_noted, AllFiled, AreWholeBut}
use Rattle.object_tables.proofs.undo_log.settle_all.Given as goal

abbrev pub invariant-loop-undo : goal.invariant-loop-undo
invariant-loop-undo l = record {
  rows : map rows_of l.tables.items ≡ map rows_of l.fn.tables.items;
  filed : AllFiled l.fn.tables.items → AllFiled l.tables.items;
  whole : AreWholeBut (is_noted (drop l.undo-index l.undo_log)) l.tables.items;
}
