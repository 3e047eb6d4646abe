use Rattle.std.proofs.Common.{◌≡◌, ◌++◌, map, drop}
use Rattle.script_tree.specs.ExpressionView.{condition_of}
use Rattle.script_tree.specs.SyntaxLists.{conditions_of}
use Rattle.script_check.specs.FoundByName.{table_of}
use Rattle.script_code.specs.Code.{tests_in}
use Rattle.script_code.proofs.shapes.tests_of.Given as goal

-- the tests so far, and those that are left
abbrev pub invariant-loop-condition : goal.invariant-loop-condition
invariant-loop-condition l = l.tests ++ tests_in (table_of l.table)
    (conditions_of (map condition_of (drop l.condition-index l.condition-items)))
    ≡ tests_in (table_of l.table) (conditions_of (map condition_of l.condition-items))
