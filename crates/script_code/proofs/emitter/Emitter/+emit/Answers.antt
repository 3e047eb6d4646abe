use Rattle.std.proofs.lemmas.Grind.{common_steps}
use Rattle.std.proofs.Common.{◌∙◌, ◌≡◌, ◌++◌, ap, sym, arith, map, append_assoc}
use Rattle.script_tree.specs.ExpressionView.{condition_of, assignment_of}
use Rattle.script_tree.specs.ExpressionWeight.{condition_list_weight, assignment_list_weight}
use Rattle.script_tree.specs.SyntaxLists.{expressions_of}
use Rattle.script_code.specs.Code.{expression_code, arguments_code}
use Rattle.script_code.specs.Jumps.{jumped}
use Rattle.script_code.specs.declared.instruction.Instruction.TheVariants as instruction
use Rattle.script_code.proofs.Emits.{OnOk-map, all_arguments, call_written, list_written, operand_lighter, query_lighter, condition_lighter, assignment_lighter, jump_written}
use Rattle.script_code.proofs.emitter.Emitter.+emit.Goals as goal

pub expressions-expression-requires : goal.expressions-expression-requires
expressions-expression-requires t c =
    let lighter = operand_lighter c.args.operands.now c.loop-operand.operand-index c.operand-item.result c.loop-operand-test.true c.operand-item.is in
    omega (arith, lighter, c.decreases)

pub queries-query-requires : goal.queries-query-requires
queries-query-requires t c =
    let lighter = query_lighter c.args.queries.now c.loop-query.query-index c.query-item.result c.loop-query-test.true c.query-item.is in
    omega (arith, lighter, c.decreases)

pub conditions-expression-requires : goal.conditions-expression-requires
conditions-expression-requires t c =
    let items = c.as_slice-condition-items.result.now in
    let lighter = condition_lighter items c.loop-condition.condition-index c.condition-item.result c.loop-condition-test.true c.condition-item.is in
    let same : condition_list_weight (map condition_of items) ≡ condition_list_weight (map condition_of c.args.conditions.now) = ap (λ cs. condition_list_weight (map condition_of cs)) c.as_slice-condition-items.ensures in
    omega (arith, lighter, same, c.decreases)

pub assignments-expression-requires : goal.assignments-expression-requires
assignments-expression-requires t c =
    let items = c.as_slice-assignment-items.result.now in
    let lighter = assignment_lighter items c.loop-assignment.assignment-index c.assignment-item.result c.loop-assignment-test.true c.assignment-item.is in
    let same : assignment_list_weight (map assignment_of items) ≡ assignment_list_weight (map assignment_of c.args.assignments.now) = ap (λ as'. assignment_list_weight (map assignment_of as')) c.as_slice-assignment-items.ensures in
    omega (arith, lighter, same, c.decreases)

pub and-returns : goal.and-returns
and-returns t c =
    let left = expression_code c.args.self.now c.args.scope.now c.args.left.now in
    let right = expression_code c.args.self.now c.args.scope.now c.args.right.now in
    c.replace.ensures
    ∙ jump_written instruction.And c.expression.new.code.items right c.put.new.code.items c.expression-2.new.code.items _ c.len-jump.result c.len.result
    (c.len-jump.ensures ∙ c.expression.new.code.ok.0) c.in_ok-put.ensures c.in_ok-expression-2.ensures (c.len.ensures ∙ c.expression-2.new.code.ok.0)
    ∙ ap (λ l. l ++ jumped instruction.And right) c.in_ok-expression.ensures
    ∙ append_assoc c.args.code.now.items left (jumped instruction.And right)

pub or-returns : goal.or-returns
or-returns t c =
    let left = expression_code c.args.self.now c.args.scope.now c.args.left.now in
    let right = expression_code c.args.self.now c.args.scope.now c.args.right.now in
    c.replace.ensures
    ∙ jump_written instruction.Or c.expression.new.code.items right c.put.new.code.items c.expression-2.new.code.items _ c.len-jump.result c.len.result
    (c.len-jump.ensures ∙ c.expression.new.code.ok.0) c.in_ok-put.ensures c.in_ok-expression-2.ensures (c.len.ensures ∙ c.expression-2.new.code.ok.0)
    ∙ ap (λ l. l ++ jumped instruction.Or right) c.in_ok-expression.ensures
    ∙ append_assoc c.args.code.now.items left (jumped instruction.Or right)

pub arguments-returns-else-takes_store : goal.arguments-returns-else-takes_store
arguments-returns-else-takes_store t c =
    let es = expressions_of c.args.operands.now in
    OnOk-map c.expressions-else-takes_store.result
    (λ e. e ∙ ap (λ l. c.args.code.now.items ++ l)
    (all_arguments c.args.self.now c.args.scope.now es
    ∙ ap (λ b. arguments_code c.args.self.now c.args.scope.now b es) (sym c.if-takes_store.false)))
    c.expressions-else-takes_store.ensures

pub call-returns : goal.call-returns
call-returns t c =
    λ at.
    OnOk-map c.put.result
    (λ e.
    call_written c.args.self.now c.args.scope.now c.args.name.now c.args.operands.now c.as_slice.result.now c.as_slice-2.result.now c.callee-callee.result c.takes_store.result c.in_ok-call.field-0 c.args.code.now.items c.arguments.new.code.items c.put.new.code.items
    c.as_slice.ensures c.as_slice-2.ensures c.callee-callee.ensures c.takes_store.ensures c.in_ok-call.ensures c.in_ok-arguments.ensures e)
    c.put.ensures

pub expression_node-returns-in-Call : goal.expression_node-returns-in-Call
expression_node-returns-in-Call t c = rw c.in-Call.is (c.call.ensures c.args.at)

pub expression_node-returns-in_ok-expressions-in-List : goal.expression_node-returns-in_ok-expressions-in-List
expression_node-returns-in_ok-expressions-in-List t c =
    rw c.in-List.is
    (OnOk-map c.put-in-List.result
    (λ e. list_written c.args.self.now c.args.scope.now c.args.at c.in-List.members c.as_slice.result.now c.len.result c.args.code.now.items c.expressions.new.code.items c.put-in-List.new.code.items c.as_slice.ensures c.len.ensures c.in_ok-expressions-in-List.ensures e)
    c.put-in-List.ensures)

pub and-overflow_sub-past : goal.and-overflow_sub-past
and-overflow_sub-past c = grind (arith, common_steps)

pub and-overflow_sub-past-2 : goal.and-overflow_sub-past-2
and-overflow_sub-past-2 c = grind (arith, common_steps)

pub and-replace-requires : goal.and-replace-requires
and-replace-requires c = grind (arith, common_steps)

pub arguments-returns-in-None : goal.arguments-returns-in-None
arguments-returns-in-None c = grind (arith, common_steps)

pub assignments-loop-assignment-preserved : goal.assignments-loop-assignment-preserved
assignments-loop-assignment-preserved c = grind (arith, common_steps)

pub assignments-returns : goal.assignments-returns
assignments-returns c = grind (arith, common_steps)

pub conditions-loop-condition-preserved : goal.conditions-loop-condition-preserved
conditions-loop-condition-preserved c = grind (arith, common_steps)

pub conditions-returns : goal.conditions-returns
conditions-returns c = grind (arith, common_steps)

pub expression_node-returns-in_ok-shapes-in-Transact : goal.expression_node-returns-in_ok-shapes-in-Transact
expression_node-returns-in_ok-shapes-in-Transact c = grind (arith, common_steps)

pub expression_node-returns-in_ok-expression-in-Binary : goal.expression_node-returns-in_ok-expression-in-Binary
expression_node-returns-in_ok-expression-in-Binary c = grind (arith, common_steps)

pub expression_node-returns-in_ok-expression-in-Index : goal.expression_node-returns-in_ok-expression-in-Index
expression_node-returns-in_ok-expression-in-Index c = grind (arith, common_steps)

pub expression_then-returns : goal.expression_then-returns
expression_then-returns c = grind (arith, common_steps)

pub expressions-loop-operand-preserved : goal.expressions-loop-operand-preserved
expressions-loop-operand-preserved c = grind (arith, common_steps)

pub expressions-returns : goal.expressions-returns
expressions-returns c = grind (arith, common_steps)

pub or-overflow_sub-past : goal.or-overflow_sub-past
or-overflow_sub-past c = grind (arith, common_steps)

pub or-overflow_sub-past-2 : goal.or-overflow_sub-past-2
or-overflow_sub-past-2 c = grind (arith, common_steps)

pub or-replace-requires : goal.or-replace-requires
or-replace-requires c = grind (arith, common_steps)

pub queries-loop-query-preserved : goal.queries-loop-query-preserved
queries-loop-query-preserved c = grind (arith, common_steps)

pub queries-returns : goal.queries-returns
queries-returns c = grind (arith, common_steps)

pub query_node-returns-in_ok-assignments-in-Update : goal.query_node-returns-in_ok-assignments-in-Update
query_node-returns-in_ok-assignments-in-Update c = grind (arith, common_steps)

pub query_node-returns-in_ok-expression-in-Expect : goal.query_node-returns-in_ok-expression-in-Expect
query_node-returns-in_ok-expression-in-Expect c = grind (arith, common_steps)
