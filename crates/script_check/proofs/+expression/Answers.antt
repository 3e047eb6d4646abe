use Rattle.std.proofs.lemmas.Grind.{common_steps}
use Rattle.std.proofs.Common.{◌-◌, length, take, drop, refl, sym, ap, ◌∙◌, arith}
use Rattle.std.specs.Option.{option_copied}
use Rattle.script_tree.specs.Builtins.{builtin_of}
use Rattle.script_tree.specs.SyntaxLists.{expressions_of}
use Rattle.script_check.specs.Least.{lower}
use Rattle.script_check.specs.Members.{in_expressions, in_queries, in_tests, in_sets}
use Rattle.script_check.specs.Validity.{arguments_faults, store_faults, expression_faults, query_faults, column_faults, set_faults, columns_in}
use Rattle.script_check.proofs.Least.{lower_append, lower_none}
use Rattle.script_check.proofs.Lists.{next_of_loop, end_of_loop, then_next}
use Rattle.script_check.proofs.Trees.{store_and_others, call_found, row_found, faults_of_condition, faults_of_assignment, conditions_step, assignments_step, lighter_expression, lighter_query, lighter_condition, lighter_assignment}
use Rattle.script_check.proofs.+expression.Goals as goal

pub expression::check_arguments-returns-in-len1-up : goal.expression::check_arguments-returns-in-len1-up
expression::check_arguments-returns-in-len1-up t c =
    let ds = c.args.index.now in
    let known = c.args.scope.now in
    let es = c.args.arguments.now in
    let l = c.args.found.now.least in
    then_next l c.check_store.new.found.least c.check_expressions.new.found.least
    (store_faults ds c.store-item.result) (in_expressions ds known
    (take (length es - 1) (drop 1 es))) c.check_store.ensures c.check_expressions.ensures
    ∙ ap (lower l) (store_and_others ds known es c.store-item.result c.in-len1-up.len_at_least c.store-item.is)
    ∙ ap (λ b. lower l (arguments_faults ds known b (expressions_of es))) (sym c.if-takes_store.true ∙ c.takes_store.ensures)

pub expression::check_call-returns : goal.expression::check_call-returns
expression::check_call-returns t c =
    call_found c.args.index.now c.args.scope.now c.args.at c.args.name.now c.args.arguments.now c.args.found.now.least c.check_count.new.found.least c.check_arguments.new.found.least
    c.named-builtin.result c.len.result c.as_bytes-2.result.now c.as_slice.result.now
    c.len.ensures (c.named-builtin.ensures ∙ ap (λ v. builtin_of v c.as_bytes.result.now) c.version.ensures ∙ ap (builtin_of c.args.index.now.version) c.as_bytes.ensures) c.as_bytes-2.ensures c.as_slice.ensures c.check_count.ensures c.check_arguments.ensures

pub query::check_query_node-returns-in-Insert : goal.query::check_query_node-returns-in-Insert
query::check_query_node-returns-in-Insert t c =
    rw c.in-Insert.is (row_found c.args.index.now c.args.scope.now c.args.at c.in-Insert.name c.in-Insert.values c.args.found.now.least c.check_table.new.found.least c.check_row.new.found.least c.check_expressions.new.found.least
    (option_copied c.table-table.result) c.len.result c.as_slice.result.now
    (c.table-table.ensures ∙ ap (columns_in c.args.index.now.declarations) c.as_bytes.ensures) c.len.ensures c.as_slice.ensures c.check_table.ensures c.check_row.ensures c.check_expressions.ensures)

pub expression::check_expressions-check_expression-requires : goal.expression::check_expressions-check_expression-requires
expression::check_expressions-check_expression-requires t c =
    let fewer = lighter_expression c.args.expressions.now c.loop-expression.expression-index c.expression-item.result c.loop-expression-test.true c.expression-item.is in
    (omega (arith, fewer, c.decreases), tt)

pub expression::check_expressions-loop-expression-preserved : goal.expression::check_expressions-loop-expression-preserved
expression::check_expressions-loop-expression-preserved t c =
    let found = c.check_expression.ensures in
    record {
      faults = next_of_loop (in_expressions c.args.index.now c.args.scope.now) (expression_faults c.args.index.now c.args.scope.now) (λ e es. refl) c.args.expressions.now c.loop-expression.expression-index c.expression-item.result c.loop-expression.found.least c.check_expression.new.found.least c.loop-expression-test.true c.expression-item.is found ∙ c.loop-expression.invariant.faults;
    }

pub expression::check_expressions-returns : goal.expression::check_expressions-returns
expression::check_expressions-returns t c = end_of_loop (in_expressions c.args.index.now c.args.scope.now) refl c.args.expressions.now c.loop-expression.expression-index c.args.found.now.least c.loop-expression.found.least c.loop-expression-test.false c.loop-expression.invariant.faults

pub query::check_queries-check_query-requires : goal.query::check_queries-check_query-requires
query::check_queries-check_query-requires t c =
    let fewer = lighter_query c.args.queries.now c.loop-query.query-index c.query-item.result c.loop-query-test.true c.query-item.is in
    (omega (arith, fewer, c.decreases), tt)

pub query::check_queries-loop-query-preserved : goal.query::check_queries-loop-query-preserved
query::check_queries-loop-query-preserved t c =
    let found = c.check_query.ensures in
    record {
      faults = next_of_loop (in_queries c.args.index.now c.args.scope.now) (query_faults c.args.index.now c.args.scope.now) (λ q qs. refl) c.args.queries.now c.loop-query.query-index c.query-item.result c.loop-query.found.least c.check_query.new.found.least c.loop-query-test.true c.query-item.is found ∙ c.loop-query.invariant.faults;
    }

pub query::check_queries-returns : goal.query::check_queries-returns
query::check_queries-returns t c = end_of_loop (in_queries c.args.index.now c.args.scope.now) refl c.args.queries.now c.loop-query.query-index c.args.found.now.least c.loop-query.found.least c.loop-query-test.false c.loop-query.invariant.faults

pub query::check_tests-check_expression-requires : goal.query::check_tests-check_expression-requires
query::check_tests-check_expression-requires t c =
    let fewer = lighter_condition c.args.tests.now c.loop-test.test-index c.test-item.result c.loop-test-test.true c.test-item.is in
    (omega (arith, fewer, c.decreases), tt)

pub query::check_tests-loop-test-preserved : goal.query::check_tests-loop-test-preserved
query::check_tests-loop-test-preserved t c =
    let found = then_next c.loop-test.found.least c.check_column.new.found.least c.check_expression.new.found.least (column_faults (option_copied c.args.table) c.test-item.result.column) (expression_faults c.args.index.now c.args.scope.now c.test-item.result.value) c.check_column.ensures c.check_expression.ensures in
    record {
      faults = next_of_loop (in_tests c.args.index.now c.args.scope.now c.args.table) (faults_of_condition c.args.index.now c.args.scope.now c.args.table) (conditions_step c.args.index.now c.args.scope.now c.args.table) c.args.tests.now c.loop-test.test-index c.test-item.result c.loop-test.found.least c.check_expression.new.found.least c.loop-test-test.true c.test-item.is found ∙ c.loop-test.invariant.faults;
    }

pub query::check_tests-returns : goal.query::check_tests-returns
query::check_tests-returns t c = end_of_loop (in_tests c.args.index.now c.args.scope.now c.args.table) refl c.args.tests.now c.loop-test.test-index c.args.found.now.least c.loop-test.found.least c.loop-test-test.false c.loop-test.invariant.faults

pub query::check_sets-check_expression-requires : goal.query::check_sets-check_expression-requires
query::check_sets-check_expression-requires t c =
    let fewer = lighter_assignment c.args.sets.now c.loop-set.set-index c.set-item.result c.loop-set-test.true c.set-item.is in
    (omega (arith, fewer, c.decreases), tt)

pub query::check_sets-loop-set-preserved : goal.query::check_sets-loop-set-preserved
query::check_sets-loop-set-preserved t c =
    let found = then_next c.loop-set.found.least c.check_set.new.found.least c.check_expression.new.found.least (set_faults (option_copied c.args.table) c.set-item.result.column) (expression_faults c.args.index.now c.args.scope.now c.set-item.result.value) c.check_set.ensures c.check_expression.ensures in
    record {
      faults = next_of_loop (in_sets c.args.index.now c.args.scope.now c.args.table) (faults_of_assignment c.args.index.now c.args.scope.now c.args.table) (assignments_step c.args.index.now c.args.scope.now c.args.table) c.args.sets.now c.loop-set.set-index c.set-item.result c.loop-set.found.least c.check_expression.new.found.least c.loop-set-test.true c.set-item.is found ∙ c.loop-set.invariant.faults;
    }

pub query::check_sets-returns : goal.query::check_sets-returns
query::check_sets-returns t c = end_of_loop (in_sets c.args.index.now c.args.scope.now c.args.table) refl c.args.sets.now c.loop-set.set-index c.args.found.now.least c.loop-set.found.least c.loop-set-test.false c.loop-set.invariant.faults

pub expression::check_node-returns-in-Transact : goal.expression::check_node-returns-in-Transact
expression::check_node-returns-in-Transact t c = grind (arith, common_steps, lower_append, lower_none)

pub expression::check_node-returns-in-Binary : goal.expression::check_node-returns-in-Binary
expression::check_node-returns-in-Binary t c = grind (arith, common_steps, lower_append, lower_none)

pub expression::check_node-returns-in-And : goal.expression::check_node-returns-in-And
expression::check_node-returns-in-And t c = grind (arith, common_steps, lower_append, lower_none)

pub expression::check_node-returns-in-Or : goal.expression::check_node-returns-in-Or
expression::check_node-returns-in-Or t c = grind (arith, common_steps, lower_append, lower_none)

pub expression::check_node-returns-in-Index : goal.expression::check_node-returns-in-Index
expression::check_node-returns-in-Index t c = grind (arith, common_steps, lower_append, lower_none)

pub query::check_query_node-returns-in-Select : goal.query::check_query_node-returns-in-Select
query::check_query_node-returns-in-Select t c = grind (arith, common_steps, lower_append, lower_none)

pub query::check_query_node-returns-in-Update : goal.query::check_query_node-returns-in-Update
query::check_query_node-returns-in-Update t c = grind (arith, common_steps, lower_append, lower_none)

pub query::check_query_node-returns-in-Delete : goal.query::check_query_node-returns-in-Delete
query::check_query_node-returns-in-Delete t c = grind (arith, common_steps, lower_append, lower_none)

pub query::check_query_node-returns-in-Expect : goal.query::check_query_node-returns-in-Expect
query::check_query_node-returns-in-Expect t c = grind (arith, common_steps, lower_append, lower_none)

pub expression::check_node-check_expression-requires : goal.expression::check_node-check_expression-requires
expression::check_node-check_expression-requires t c = grind (arith, common_steps)

pub expression::check_node-check_expression-requires-in-Unary : goal.expression::check_node-check_expression-requires-in-Unary
expression::check_node-check_expression-requires-in-Unary t c = grind (arith, common_steps)

pub expression::check_node-check_expression-requires-in-Binary : goal.expression::check_node-check_expression-requires-in-Binary
expression::check_node-check_expression-requires-in-Binary t c = grind (arith, common_steps)

pub expression::check_node-check_expression-requires-in-Binary-2 : goal.expression::check_node-check_expression-requires-in-Binary-2
expression::check_node-check_expression-requires-in-Binary-2 t c = grind (arith, common_steps)

pub expression::check_node-check_expression-requires-in-And : goal.expression::check_node-check_expression-requires-in-And
expression::check_node-check_expression-requires-in-And t c = grind (arith, common_steps)

pub expression::check_node-check_expression-requires-in-And-2 : goal.expression::check_node-check_expression-requires-in-And-2
expression::check_node-check_expression-requires-in-And-2 t c = grind (arith, common_steps)

pub expression::check_node-check_expression-requires-in-Or : goal.expression::check_node-check_expression-requires-in-Or
expression::check_node-check_expression-requires-in-Or t c = grind (arith, common_steps)

pub expression::check_node-check_expression-requires-in-Or-2 : goal.expression::check_node-check_expression-requires-in-Or-2
expression::check_node-check_expression-requires-in-Or-2 t c = grind (arith, common_steps)

pub expression::check_node-check_expression-requires-in-Index : goal.expression::check_node-check_expression-requires-in-Index
expression::check_node-check_expression-requires-in-Index t c = grind (arith, common_steps)

pub expression::check_node-check_expression-requires-in-Index-2 : goal.expression::check_node-check_expression-requires-in-Index-2
expression::check_node-check_expression-requires-in-Index-2 t c = grind (arith, common_steps)

pub expression::check_node-check_call-requires : goal.expression::check_node-check_call-requires
expression::check_node-check_call-requires t c = grind (arith, common_steps)

pub expression::check_node-check_expressions-requires : goal.expression::check_node-check_expressions-requires
expression::check_node-check_expressions-requires t c = grind (arith, common_steps)

pub expression::check_node-check_queries-requires : goal.expression::check_node-check_queries-requires
expression::check_node-check_queries-requires t c = grind (arith, common_steps)

pub query::check_query_node-check_expression-requires : goal.query::check_query_node-check_expression-requires
query::check_query_node-check_expression-requires t c = grind (arith, common_steps)

pub query::check_query_node-check_expressions-requires : goal.query::check_query_node-check_expressions-requires
query::check_query_node-check_expressions-requires t c = grind (arith, common_steps)

pub query::check_query_node-check_sets-requires : goal.query::check_query_node-check_sets-requires
query::check_query_node-check_sets-requires t c = grind (arith, common_steps)

pub query::check_query_node-check_tests-requires : goal.query::check_query_node-check_tests-requires
query::check_query_node-check_tests-requires t c = grind (arith, common_steps)

pub query::check_query_node-check_tests-requires-in-Delete : goal.query::check_query_node-check_tests-requires-in-Delete
query::check_query_node-check_tests-requires-in-Delete t c = grind (arith, common_steps)

pub query::check_query_node-check_tests-requires-in-Expect : goal.query::check_query_node-check_tests-requires-in-Expect
query::check_query_node-check_tests-requires-in-Expect t c = grind (arith, common_steps)

pub query::check_query_node-check_tests-requires-in-Update : goal.query::check_query_node-check_tests-requires-in-Update
query::check_query_node-check_tests-requires-in-Update t c = grind (arith, common_steps)
