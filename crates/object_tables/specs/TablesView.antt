-- The tables of the code, as definitions see them.
use Rattle.std.specs.Prelude.{◌≡◌, []}
use Rattle.script_tree.specs.Fit.{AreTables}
use Rattle.object_tables.specs.Storages.{slots_in, rows_in}
use Rattle.object_tables.specs.UndoLog.{AllFiled, AreWhole}
use Rattle.object_tables.specs.TableSets.{TableSet, table_set}
use Rattle.object_tables.specs.declared.tables.Tables.TheInside.{Inside}

-- the widths of the tables, and their rows
abbrev pub tables_in : Inside → TableSet
tables_in a = table_set a.widths.items (rows_in a.storage)

-- The rows fit the widths, each lies under its key, no slot is empty, and no change waits to be taken back.
pub record AreKept (a : Inside) : Type 0 where
  pub fit : AreTables a.widths.items (rows_in a.storage)
  pub filed : AllFiled (slots_in a.storage)
  pub whole : AreWhole (slots_in a.storage)
  pub undo_log : a.storage.undo_log.items ≡ []
