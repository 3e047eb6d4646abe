use Rattle.std.proofs.Common.{◌≡◌, drop, is_some}
use Rattle.std.specs.List.{list_all}
use Rattle.script_tree.specs.Declarations.{table_from}
use Rattle.state_file.proofs.stored.are_tables_there.Given as goal

abbrev pub invariant-loop-table : goal.invariant-loop-table
invariant-loop-table l =
    list_all (λ t. is_some (table_from 0 t.0 l.index.declarations)) (drop l.table-index l.tables)
    ≡ list_all (λ t. is_some (table_from 0 t.0 l.index.declarations)) l.tables
