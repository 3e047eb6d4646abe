use Rattle.std.proofs.Common.{◌+◌, ◌*◌, ◌≡◌, ◌++◌, map, drop}
use Rattle.script_tree.specs.ExpressionView.{expression_of, query_of, condition_of, assignment_of}
use Rattle.script_tree.specs.ExpressionWeight.{expression_weight, query_weight, expression_list_weight, query_list_weight, condition_list_weight, assignment_list_weight}
use Rattle.script_tree.specs.SyntaxLists.{expressions_of, queries_of, conditions_of, assignments_of}
use Rattle.script_code.specs.Code.{expressions_code, queries_code, conditions_code, assignments_code}
use Rattle.script_code.proofs.emitter.Emitter.+emit.Given as goal

abbrev pub decreases-expression : goal.decreases-expression
decreases-expression l = 4 * expression_weight l.e.now + 2

abbrev pub decreases-expression_node : goal.decreases-expression_node
decreases-expression_node l = 4 * expression_weight (expression_of l.at l.node.now) + 1

abbrev pub decreases-expression_then : goal.decreases-expression_then
decreases-expression_then l = 4 * expression_weight l.e.now + 3

abbrev pub decreases-and : goal.decreases-and
decreases-and l = 4 * (expression_weight l.left.now + expression_weight l.right.now) + 3

abbrev pub decreases-or : goal.decreases-or
decreases-or l = 4 * (expression_weight l.left.now + expression_weight l.right.now) + 3

abbrev pub decreases-call : goal.decreases-call
decreases-call l = 4 * expression_list_weight l.operands.now + 3

abbrev pub decreases-arguments : goal.decreases-arguments
decreases-arguments l = 4 * expression_list_weight l.operands.now + 2

abbrev pub decreases-expressions : goal.decreases-expressions
decreases-expressions l = 4 * expression_list_weight l.operands.now

abbrev pub decreases-queries : goal.decreases-queries
decreases-queries l = 4 * query_list_weight l.queries.now

abbrev pub decreases-query : goal.decreases-query
decreases-query l = 4 * query_weight l.query.now + 2

abbrev pub decreases-query_node : goal.decreases-query_node
decreases-query_node l = 4 * query_weight (query_of l.at l.node.now) + 1

abbrev pub decreases-conditions : goal.decreases-conditions
decreases-conditions l = 4 * condition_list_weight (map condition_of l.conditions.now)

abbrev pub decreases-assignments : goal.decreases-assignments
decreases-assignments l = 4 * assignment_list_weight (map assignment_of l.assignments.now)

-- the code so far, and that of what is left
abbrev pub invariant-expressions-loop-operand : goal.invariant-expressions-loop-operand
invariant-expressions-loop-operand l = l.code.items
    ++ expressions_code l.self l.scope (expressions_of (drop l.operand-index l.operands)) ≡ l.initial.code.items
    ++ expressions_code l.self l.scope (expressions_of l.operands)

abbrev pub invariant-queries-loop-query : goal.invariant-queries-loop-query
invariant-queries-loop-query l = l.code.items
    ++ queries_code l.self l.scope (queries_of (drop l.query-index l.queries)) ≡ l.initial.code.items
    ++ queries_code l.self l.scope (queries_of l.queries)

abbrev pub invariant-conditions-loop-condition : goal.invariant-conditions-loop-condition
invariant-conditions-loop-condition l = l.code.items
    ++ conditions_code l.self l.scope (conditions_of (map condition_of (drop l.condition-index l.condition-items)))
    ≡ l.initial.code.items ++ conditions_code l.self l.scope (conditions_of (map condition_of l.condition-items))

abbrev pub invariant-assignments-loop-assignment : goal.invariant-assignments-loop-assignment
invariant-assignments-loop-assignment l = l.code.items ++ assignments_code l.self l.scope
    (assignments_of (map assignment_of (drop l.assignment-index l.assignment-items))) ≡ l.initial.code.items
    ++ assignments_code l.self l.scope (assignments_of (map assignment_of l.assignment-items))
