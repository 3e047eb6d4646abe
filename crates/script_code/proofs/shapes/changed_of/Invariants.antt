use Rattle.std.proofs.Common.{◌≡◌, ◌++◌, map, drop}
use Rattle.script_tree.specs.ExpressionView.{assignment_of}
use Rattle.script_tree.specs.SyntaxLists.{assignments_of}
use Rattle.script_check.specs.FoundByName.{table_of}
use Rattle.script_code.specs.Code.{changes_in}
use Rattle.script_code.proofs.shapes.changed_of.Given as goal

-- the columns so far, and those that are left
abbrev pub invariant-loop-assignment : goal.invariant-loop-assignment
invariant-loop-assignment l = l.columns ++ changes_in (table_of l.table)
    (assignments_of (map assignment_of (drop l.assignment-index l.assignment-items)))
    ≡ changes_in (table_of l.table) (assignments_of (map assignment_of l.assignment-items))
