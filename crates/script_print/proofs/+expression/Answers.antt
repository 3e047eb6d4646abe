use Rattle.std.proofs.Common.{arith}
use Rattle.script_print.proofs.Lighter.{lighter_expression, lighter_query, lighter_condition, lighter_assignment}
use Rattle.script_print.proofs.+expression.Goals as goal

-- ---- a member is lighter than its list

pub expression::print_more_members-print_expression-requires : goal.expression::print_more_members-print_expression-requires
expression::print_more_members-print_expression-requires t c =
    let fewer = lighter_expression c.args.others.now c.loop-member.member-index c.member-item.result c.loop-member-test.true c.member-item.is in
    (omega (arith, fewer, c.decreases), tt)

pub query::print_queries-print_query-requires : goal.query::print_queries-print_query-requires
query::print_queries-print_query-requires t c =
    let fewer = lighter_query c.args.list.now c.loop-query.query-index c.query-item.result c.loop-query-test.true c.query-item.is in
    (omega (arith, fewer, c.decreases), tt)

pub query::print_more_conditions-print_condition-requires : goal.query::print_more_conditions-print_condition-requires
query::print_more_conditions-print_condition-requires t c =
    let fewer = lighter_condition c.args.others.now c.loop-condition.condition-index c.condition-item.result c.loop-condition-test.true c.condition-item.is in
    (omega (arith, fewer, c.decreases), tt)

pub query::print_more_assignments-print_assignment-requires : goal.query::print_more_assignments-print_assignment-requires
query::print_more_assignments-print_assignment-requires t c =
    let fewer = lighter_assignment c.args.others.now c.loop-assignment.assignment-index c.assignment-item.result c.loop-assignment-test.true c.assignment-item.is in
    (omega (arith, fewer, c.decreases), tt)
