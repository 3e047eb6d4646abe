use Rattle.std.proofs.Common.{◌≡◌, map, take}
use Rattle.script_tree.specs.Declarations.{column_in}
use Rattle.script_check.specs.FoundByName.{table_of}
use Rattle.page_walker.proofs.queries.columns_of.Given as goal

abbrev pub invariant-loop-name : goal.invariant-loop-name
invariant-loop-name l = l.columns ≡ map (column_in (table_of l.table)) (take l.name-index l.name-items)
