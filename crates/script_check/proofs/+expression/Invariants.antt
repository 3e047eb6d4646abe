use Rattle.std.proofs.Common.{◌≡◌, ◌+◌, ◌*◌, drop, map}
use Rattle.script_tree.specs.ExpressionView.{expression_of, query_of, condition_of, assignment_of}
use Rattle.script_tree.specs.ExpressionWeight.{expression_weight, expressions_weight, query_weight, queries_weight, conditions_weight, assignments_weight}
use Rattle.script_tree.specs.SyntaxLists.{expressions_of, queries_of, conditions_of, assignments_of}
use Rattle.script_check.specs.Least.{lower}
use Rattle.script_check.specs.Members.{in_expressions, in_queries, in_tests, in_sets}
use Rattle.script_check.proofs.+expression.Given as goal

abbrev pub decreases-expression::check_expression : goal.decreases-expression::check_expression
decreases-expression::check_expression l = 4 * expression_weight l.expression.now + 2

abbrev pub decreases-expression::check_node : goal.decreases-expression::check_node
decreases-expression::check_node l = 4 * expression_weight (expression_of l.at l.node.now) + 1

abbrev pub decreases-expression::check_call : goal.decreases-expression::check_call
decreases-expression::check_call l = 4 * expressions_weight (expressions_of l.arguments.now) + 2

abbrev pub decreases-expression::check_arguments : goal.decreases-expression::check_arguments
decreases-expression::check_arguments l = 4 * expressions_weight (expressions_of l.arguments.now) + 1

abbrev pub decreases-expression::check_expressions : goal.decreases-expression::check_expressions
decreases-expression::check_expressions l = 4 * expressions_weight (expressions_of l.expressions.now)

abbrev pub decreases-query::check_query : goal.decreases-query::check_query
decreases-query::check_query l = 4 * query_weight l.query.now + 2

abbrev pub decreases-query::check_query_node : goal.decreases-query::check_query_node
decreases-query::check_query_node l = 4 * query_weight (query_of l.at l.node.now) + 1

abbrev pub decreases-query::check_queries : goal.decreases-query::check_queries
decreases-query::check_queries l = 4 * queries_weight (queries_of l.queries.now)

abbrev pub decreases-query::check_tests : goal.decreases-query::check_tests
decreases-query::check_tests l = 4 * conditions_weight (conditions_of (map condition_of l.tests.now))

abbrev pub decreases-query::check_sets : goal.decreases-query::check_sets
decreases-query::check_sets l = 4 * assignments_weight (assignments_of (map assignment_of l.sets.now))

abbrev pub invariant-expression::check_expressions-loop-expression : goal.invariant-expression::check_expressions-loop-expression
invariant-expression::check_expressions-loop-expression l = record {
  faults : lower l.found.least (in_expressions l.index l.scope (drop l.expression-index l.expressions))
      ≡ lower l.fn.found.least (in_expressions l.index l.scope l.expressions);
}

abbrev pub invariant-query::check_queries-loop-query : goal.invariant-query::check_queries-loop-query
invariant-query::check_queries-loop-query l = record {
  faults : lower l.found.least (in_queries l.index l.scope (drop l.query-index l.queries)) ≡ lower l.fn.found.least (in_queries l.index l.scope l.queries);
}

abbrev pub invariant-query::check_tests-loop-test : goal.invariant-query::check_tests-loop-test
invariant-query::check_tests-loop-test l = record {
  faults : lower l.found.least (in_tests l.index l.scope l.table (drop l.test-index l.tests))
      ≡ lower l.fn.found.least (in_tests l.index l.scope l.table l.tests);
}

abbrev pub invariant-query::check_sets-loop-set : goal.invariant-query::check_sets-loop-set
invariant-query::check_sets-loop-set l = record {
  faults : lower l.found.least (in_sets l.index l.scope l.table (drop l.set-index l.sets)) ≡ lower l.fn.found.least (in_sets l.index l.scope l.table l.sets);
}
