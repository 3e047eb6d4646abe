use Rattle.std.proofs.Common.{◌+◌, ◌*◌, drop, map}
use Rattle.script_tree.specs.ExpressionView.{expression_of, query_of, condition_of, assignment_of}
use Rattle.script_tree.specs.ExpressionWeight.{expression_weight, expressions_weight, query_weight, queries_weight, conditions_weight, assignments_weight}
use Rattle.script_tree.specs.SyntaxLists.{expressions_of, queries_of, conditions_of, assignments_of}
use Rattle.script_print.specs.Pieces.{more_members, queries, more_conditions, more_assignments}
use Rattle.script_print.proofs.Parts.{IsLeft}
use Rattle.script_print.proofs.+expression.Given as goal

abbrev pub decreases-expression::print_expression : goal.decreases-expression::print_expression
decreases-expression::print_expression l = 4 * expression_weight l.expression.now + 2

abbrev pub decreases-expression::print_node : goal.decreases-expression::print_node
decreases-expression::print_node l = 4 * expression_weight (expression_of 0 l.node.now) + 1

abbrev pub decreases-expression::print_infix : goal.decreases-expression::print_infix
decreases-expression::print_infix l = 4 * (expression_weight l.left.now + expression_weight l.right.now) + 3

abbrev pub decreases-expression::print_enclosed : goal.decreases-expression::print_enclosed
decreases-expression::print_enclosed l = 4 * expression_weight l.inner.now + 3

abbrev pub decreases-expression::print_list : goal.decreases-expression::print_list
decreases-expression::print_list l = 4 * expressions_weight (expressions_of l.list.now) + 2

abbrev pub decreases-expression::print_members : goal.decreases-expression::print_members
decreases-expression::print_members l = 4 * expressions_weight (expressions_of l.list.now) + 1

abbrev pub decreases-expression::print_more_members : goal.decreases-expression::print_more_members
decreases-expression::print_more_members l = 4 * expressions_weight (expressions_of l.others.now)

abbrev pub decreases-query::print_transact : goal.decreases-query::print_transact
decreases-query::print_transact l = 4 * queries_weight (queries_of l.list.now) + 1

abbrev pub decreases-query::print_queries : goal.decreases-query::print_queries
decreases-query::print_queries l = 4 * queries_weight (queries_of l.list.now)

abbrev pub decreases-query::print_query : goal.decreases-query::print_query
decreases-query::print_query l = 4 * query_weight l.query.now + 2

abbrev pub decreases-query::print_query_node : goal.decreases-query::print_query_node
decreases-query::print_query_node l = 4 * query_weight (query_of 0 l.node.now) + 1

abbrev pub decreases-query::print_from : goal.decreases-query::print_from
decreases-query::print_from l = 4 * conditions_weight (conditions_of (map condition_of l.tests.now)) + 3

abbrev pub decreases-query::print_rows : goal.decreases-query::print_rows
decreases-query::print_rows l = 4 * conditions_weight (conditions_of (map condition_of l.tests.now)) + 2

abbrev pub decreases-query::print_where : goal.decreases-query::print_where
decreases-query::print_where l = 4 * conditions_weight (conditions_of (map condition_of l.tests.now)) + 1

abbrev pub decreases-query::print_more_conditions : goal.decreases-query::print_more_conditions
decreases-query::print_more_conditions l = 4 * conditions_weight (conditions_of (map condition_of l.others.now))

abbrev pub decreases-query::print_condition : goal.decreases-query::print_condition
decreases-query::print_condition l = 4 * expression_weight l.test.now.value + 3

abbrev pub decreases-query::print_assignments : goal.decreases-query::print_assignments
decreases-query::print_assignments l = 4 * assignments_weight (assignments_of (map assignment_of l.list.now)) + 1

abbrev pub decreases-query::print_more_assignments : goal.decreases-query::print_more_assignments
decreases-query::print_more_assignments l = 4 * assignments_weight (assignments_of (map assignment_of l.others.now))

abbrev pub decreases-query::print_assignment : goal.decreases-query::print_assignment
decreases-query::print_assignment l = 4 * expression_weight l.assigned.now.value + 3

abbrev pub invariant-expression::print_more_members-loop-member : goal.invariant-expression::print_more_members-loop-member
invariant-expression::print_more_members-loop-member l = IsLeft (more_members (drop l.member-index l.others)) (more_members l.others) l.fn.printer l.printer

abbrev pub invariant-query::print_queries-loop-query : goal.invariant-query::print_queries-loop-query
invariant-query::print_queries-loop-query l = IsLeft (queries (drop l.query-index l.list)) (queries l.list) l.fn.printer l.printer

abbrev pub invariant-query::print_more_conditions-loop-condition : goal.invariant-query::print_more_conditions-loop-condition
invariant-query::print_more_conditions-loop-condition l =
    IsLeft (more_conditions (drop l.condition-index l.others)) (more_conditions l.others) l.fn.printer l.printer

abbrev pub invariant-query::print_more_assignments-loop-assignment : goal.invariant-query::print_more_assignments-loop-assignment
invariant-query::print_more_assignments-loop-assignment l =
    IsLeft (more_assignments (drop l.assignment-index l.others)) (more_assignments l.others) l.fn.printer l.printer
