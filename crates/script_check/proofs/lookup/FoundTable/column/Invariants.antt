use Rattle.std.proofs.Common.{◌≡◌, drop}
use Rattle.script_tree.specs.Declarations.{column_from}
use Rattle.script_check.proofs.lookup.FoundTable.column.Given as goal

-- the column is among what is left
abbrev pub invariant-loop-column : goal.invariant-loop-column
invariant-loop-column l = record {
  place : l.number ≡ l.column-index;
  left : column_from l.number l.name.text (drop l.column-index l.column-items) ≡ column_from 0 l.name.text l.column-items;
}
