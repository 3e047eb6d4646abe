use Rattle.std.proofs.lemmas.Grind.{common_steps}
use Rattle.std.proofs.Common.{◌≡◌, Some, ap, sym, refl, ◌∙◌, subst, map, arith}
use Rattle.std.proofs.lemmas.Result.{err_from_is_err_and}
use Rattle.script_tree.specs.Declarations.{callee_in}
use Rattle.script_tree.specs.ExpressionView.{expression_of, condition_of, assignment_of}
use Rattle.script_tree.specs.ExpressionWeight.{expression_weight, query_list_weight, condition_list_weight, assignment_list_weight}
use Rattle.script_tree.specs.Syntax.{null}
use Rattle.script_tree.specs.SyntaxLists.{statements_of}
use Rattle.script_meaning.specs.Evaluate.{on, back}
use Rattle.script_meaning.specs.Run.{goes, after}
use Rattle.page_walker.specs.Flows.{flow_of}
use Rattle.script_check.specs.FoundByName.{function_of}
use Rattle.page_walker.specs.Frames.{value_at, call_at}
use Rattle.page_walker.specs.Gives.{GivesValue}
use Rattle.page_walker.specs.Nodes.{block_nodes}
use Rattle.page_walker.specs.Rows.{first_of, climbs}
use Rattle.page_walker.proofs.Blocks.{while_turn, while_out}
use Rattle.page_walker.proofs.Enters.{fewer, one_less, none_left, inside, inside_stops}
use Rattle.page_walker.proofs.Lighter.{operand_lighter, query_lighter, condition_lighter, assignment_lighter, statement_lighter}
use Rattle.page_walker.proofs.Rows.{AreWithin, within_more, within_less, first_lighter, waits, rest_stops, rest_goes}
use Rattle.page_walker.proofs.frame.Frame.+walk.Goals as goal

pub eval_atom-returns-in-Call : goal.eval_atom-returns-in-Call
eval_atom-returns-in-Call t c = rw c.in-Call.is (c.eval_call.ensures c.args.at)

pub eval_atom-returns-in-List : goal.eval_atom-returns-in-List
eval_atom-returns-in-List t c = rw c.in-List.is (c.eval_list.ensures c.args.at)

pub eval_atom-returns-in-Transact : goal.eval_atom-returns-in-Transact
eval_atom-returns-in-Transact t c = rw c.in-Transact.is (c.eval_transact.ensures c.args.at)

pub climb-returns-in-Binary : goal.climb-returns-in-Binary
climb-returns-in-Binary t c = rw (c.in-Binary.is, ← c.deref.ensures) (c.climb_binary.ensures c.args.at (null 0))

pub climb-returns-in-And : goal.climb-returns-in-And
climb-returns-in-And t c = rw (c.in-And.is, ← c.deref-in-And.ensures) (c.climb_and.ensures c.args.at (null 0))

pub climb-returns-in-Or : goal.climb-returns-in-Or
climb-returns-in-Or t c = rw (c.in-Or.is, ← c.deref-in-Or.ensures) (c.climb_or.ensures c.args.at (null 0))

pub climb-returns-in-Index : goal.climb-returns-in-Index
climb-returns-in-Index t c = rw (c.in-Index.is, ← c.deref-in-Index.ensures) (c.climb_index.ensures c.args.at (null 0))

pub eval_first-loop-first-preserved : goal.eval_first-loop-first-preserved
eval_first-loop-first-preserved t c =
    let f = c.args.self.now in
    let vs = c.args.variables.now in
    let inner = c.loop-first.inner in
    let first = c.in-Some.first.now in
    let n = expression_weight c.args.e.now in
    let here : first_of inner.now ≡ Some first = ap first_of (sym c.inner.view_is) ∙ sym (c.in-Some.ensures c.inner.inside.at) in
    record {
      told = λ p.
          ap (λ es. after (value_at f vs first p) (climbs f vs es)) c.in_ok-push.ensures.items
          ∙ waits f vs c.loop-first.waiting.items inner first here p
          ∙ c.loop-first.invariant.told p;
      inner = omega (arith, first_lighter inner.now first here, c.loop-first.invariant.inner);
      waiting = subst (AreWithin n) (sym c.in_ok-push.ensures.items) (within_more n c.loop-first.waiting.items inner c.loop-first.invariant.waiting c.loop-first.invariant.inner);
    }

pub eval_first-climb-requires : goal.eval_first-climb-requires
eval_first-climb-requires t c =
    let n = expression_weight c.args.e.now in
    let outer = c.in-Some-pop.outer in
    let lighter = within_less n c.pop.new.self.items outer (subst (AreWithin n) c.in-Some-pop.ensures.items c.loop-outer.invariant.waiting) in
    let same : expression_weight (expression_of c.outer.inside.at c.outer.inside.node) ≡ expression_weight outer.now = ap expression_weight c.outer.view_is in
    omega (arith, lighter.1, same, c.decreases)

pub eval_first-returns-in_err-value-2 : goal.eval_first-returns-in_err-value-2
eval_first-returns-in_err-value-2 t c =
    let q = err_from_is_err_and c.from_residual-in_err-value-2.result c.from_residual-in_err-value-2.ensures.1 in
    rw (q.1, q.2)
    (rest_stops c.args.self.now c.args.variables.now c.loop-outer.waiting.items c.pop.new.self.items c.in-Some-pop.outer (expression_of c.outer.inside.at c.outer.inside.node) c.loop-outer.value c.loop-outer.run
    (value_at c.args.self.now c.args.variables.now c.args.e.now c.args.run.now) c.in_err-value-2.field-0.0 c.climb.new.run
    c.in-Some-pop.ensures.items c.outer.view_is c.loop-outer.invariant.told c.in_err-value-2.ensures)

pub eval_first-loop-outer-preserved : goal.eval_first-loop-outer-preserved
eval_first-loop-outer-preserved t c =
    let n = expression_weight c.args.e.now in
    record {
      told =
          rest_goes c.args.self.now c.args.variables.now c.loop-outer.waiting.items c.pop.new.self.items c.in-Some-pop.outer (expression_of c.outer.inside.at c.outer.inside.node) c.loop-outer.value c.loop-outer.run
          (value_at c.args.self.now c.args.variables.now c.args.e.now c.args.run.now) c.in_ok-value-2.value c.climb.new.run
          c.in-Some-pop.ensures.items c.outer.view_is c.loop-outer.invariant.told c.in_ok-value-2.ensures;
      waiting = (within_less n c.pop.new.self.items c.in-Some-pop.outer (subst (AreWithin n) c.in-Some-pop.ensures.items c.loop-outer.invariant.waiting)).0;
    }

pub exec_node-returns-in-Let : goal.exec_node-returns-in-Let
exec_node-returns-in-Let t c = rw c.in-Let.is (c.exec_let.ensures c.args.at)

pub exec_node-returns-in-Set : goal.exec_node-returns-in-Set
exec_node-returns-in-Set t c = rw c.in-Set.is (c.exec_set.ensures c.args.at)

pub exec_node-returns-in-If : goal.exec_node-returns-in-If
exec_node-returns-in-If t c = rw c.in-If.is (c.exec_if.ensures c.args.at)

pub exec_node-returns-in-While : goal.exec_node-returns-in-While
exec_node-returns-in-While t c = rw c.in-While.is (c.exec_while.ensures c.args.at)

pub exec_node-returns-in-For : goal.exec_node-returns-in-For
exec_node-returns-in-For t c = rw c.in-For.is (c.exec_for.ensures c.args.at)

pub exec_node-returns-in-Echo : goal.exec_node-returns-in-Echo
exec_node-returns-in-Echo t c = rw c.in-Echo.is (c.exec_echo.ensures c.args.at)

pub exec_node-returns-in-Status : goal.exec_node-returns-in-Status
exec_node-returns-in-Status t c = rw c.in-Status.is (c.exec_status.ensures c.args.at)

pub exec_node-returns-in-Return : goal.exec_node-returns-in-Return
exec_node-returns-in-Return t c = rw c.in-Return.is (c.exec_return.ensures c.args.at)

pub exec_node-returns-in-Do : goal.exec_node-returns-in-Do
exec_node-returns-in-Do t c = rw c.in-Do.is (c.exec_do.ensures c.args.at)

pub all_operands-operands-requires : goal.all_operands-operands-requires
all_operands-operands-requires t c =
    let items = c.as_slice-query-items.result.now in
    let lighter = query_lighter items c.loop-query.query-index c.query-item.result c.loop-query-test.true c.query-item.is in
    let same : query_list_weight items ≡ query_list_weight c.args.queries.now = ap query_list_weight c.as_slice-query-items.ensures in
    omega (arith, lighter, same, c.decreases)

pub block-exec-requires : goal.block-exec-requires
block-exec-requires t c =
    let items = c.as_slice-statement-items.result.now in
    let lighter = statement_lighter items c.loop-statement.statement-index c.statement-item.result c.loop-statement-test.true c.statement-item.is in
    let same : block_nodes items ≡ block_nodes c.args.body.now = ap block_nodes c.as_slice-statement-items.ensures in
    omega (arith, lighter, same, c.decreases)

pub changes-eval-requires : goal.changes-eval-requires
changes-eval-requires t c =
    let items = c.as_slice-assignment-items.result.now in
    let lighter = assignment_lighter items c.loop-assignment.assignment-index c.assignment-item.result c.loop-assignment-test.true c.assignment-item.is in
    let same : assignment_list_weight (map assignment_of items) ≡ assignment_list_weight (map assignment_of c.args.assignments.now) = ap (λ as'. assignment_list_weight (map assignment_of as')) c.as_slice-assignment-items.ensures in
    omega (arith, lighter, same, c.decreases)

pub tests-eval-requires : goal.tests-eval-requires
tests-eval-requires t c =
    let items = c.as_slice-condition-items.result.now in
    let lighter = condition_lighter items c.loop-condition.condition-index c.condition-item.result c.loop-condition-test.true c.condition-item.is in
    let same : condition_list_weight (map condition_of items) ≡ condition_list_weight (map condition_of c.args.conditions.now) = ap (λ cs. condition_list_weight (map condition_of cs)) c.as_slice-condition-items.ensures in
    omega (arith, lighter, same, c.decreases)

pub eval_all-eval-requires : goal.eval_all-eval-requires
eval_all-eval-requires t c =
    let items = c.args.operands.now in
    let lighter = operand_lighter items c.loop-operand.operand-index c.operand-item.result c.loop-operand-test.true c.operand-item.is in
    omega (arith, lighter, c.decreases)

pub enter-returns-then-self-eq0 : goal.enter-returns-then-self-eq0
enter-returns-then-self-eq0 t c =
    rw c.fault-then-self-eq0.ensures
    (none_left c.args.self.now.walker.now c.args.self.now.depth (function_of c.args.function) c.args.values.items c.args.run.now c.if-self-eq-MOST_CALL_DEPTH.false c.args.self.now.fuel c.if-self-eq0.true)

pub enter-block-flow-requires : goal.enter-block-flow-requires
enter-block-flow-requires t c =
    (omega (arith, one_less c.args.self.now.walker.now.program c.args.self.now.fuel (block_nodes c.args.function.body.now) c.if-self-eq0.false c.requires, c.decreases), tt)

pub enter-returns-in_err-flow : goal.enter-returns-in_err-flow
enter-returns-in_err-flow t c =
    let q = err_from_is_err_and c.from_residual-in_err-flow.result c.from_residual-in_err-flow.ensures.1 in
    rw (q.1, q.2)
    (inside_stops c.args.self.now.walker.now c.args.self.now.depth (function_of c.args.function) c.args.values.items c.args.run.now c.if-self-eq-MOST_CALL_DEPTH.false c.args.self.now.fuel
    c.in_ok-variables.variables c.in_err-flow.field-0.0 c.block-flow.new.run _ c.if-self-eq0.false c.in_ok-variables.ensures refl c.in_err-flow.ensures)

pub enter-returns-in-On : goal.enter-returns-in-On
enter-returns-in-On t c =
    inside c.args.self.now.walker.now c.args.self.now.depth (function_of c.args.function) c.args.values.items c.args.run.now c.if-self-eq-MOST_CALL_DEPTH.false c.args.self.now.fuel
    c.in_ok-variables.variables (goes (on c.block-flow.new.variables) c.block-flow.new.run) c.if-self-eq0.false c.in_ok-variables.ensures
    (c.in_ok-flow.ensures ∙ ap (λ f. goes (flow_of c.block-flow.new.variables f) c.block-flow.new.run) c.in-On.is)
    ∙ ap (λ v. goes v c.block-flow.new.run) (sym c.null.ensures)

pub enter-returns-in-Back : goal.enter-returns-in-Back
enter-returns-in-Back t c =
    inside c.args.self.now.walker.now c.args.self.now.depth (function_of c.args.function) c.args.values.items c.args.run.now c.if-self-eq-MOST_CALL_DEPTH.false c.args.self.now.fuel
    c.in_ok-variables.variables (goes (back c.in-Back.value) c.block-flow.new.run) c.if-self-eq0.false c.in_ok-variables.ensures
    (c.in_ok-flow.ensures ∙ ap (λ f. goes (flow_of c.block-flow.new.variables f) c.block-flow.new.run) c.in-Back.is)

pub exec_while-eval-requires : goal.exec_while-eval-requires
exec_while-eval-requires t c =
    (omega (arith, fewer c.args.self.now.walker.now.program c.loop-value.left c.args.self.now.fuel c.loop-value.invariant.within, c.decreases), tt)

pub exec_while-scoped-requires : goal.exec_while-scoped-requires
exec_while-scoped-requires t c =
    (omega (arith, fewer c.args.self.now.walker.now.program c.loop-value.left c.args.self.now.fuel c.loop-value.invariant.within, c.decreases), tt)

pub exec_while-loop-value-preserved : goal.exec_while-loop-value-preserved
exec_while-loop-value-preserved t c = record {
  within = omega (arith, c.loop-value.invariant.within);
  told = λ at.
      sym (while_turn c.args.self.now.walker.now c.loop-value.left c.args.self.now.depth at c.args.e.now (statements_of c.args.body.now)
      c.loop-value.variables c.scoped.new.variables c.loop-value.run c.eval.new.run c.decide-holds.new.self c.scoped.new.run c.in_ok-value.value (omega arith)
      c.in_ok-value.ensures
      (c.in_ok-holds.ensures ∙ ap (λ b. goes b c.decide-holds.new.self) c.if-not-branch.false)
      (c.in_ok-scoped.ensures ∙ ap (λ f. goes (flow_of c.scoped.new.variables f) c.scoped.new.run) c.in-On.is))
      ∙ c.loop-value.invariant.told at;
}

pub exec_while-returns-then-left-eq0 : goal.exec_while-returns-then-left-eq0
exec_while-returns-then-left-eq0 t c =
    λ at.
    rw c.fault.ensures
    (sym (c.loop-value.invariant.told at)
    ∙ while_out c.args.self.now.walker.now c.loop-value.left c.args.self.now.depth at c.args.e.now (statements_of c.args.body.now)
    c.loop-value.variables c.scoped.new.variables c.loop-value.run c.eval.new.run c.decide-holds.new.self c.scoped.new.run c.in_ok-value.value c.if-left-eq0.true
    c.in_ok-value.ensures
    (c.in_ok-holds.ensures ∙ ap (λ b. goes b c.decide-holds.new.self) c.if-not-branch.false)
    (c.in_ok-scoped.ensures ∙ ap (λ f. goes (flow_of c.scoped.new.variables f) c.scoped.new.run) c.in-On.is))

pub exec_for-returns-in-Some : goal.exec_for-returns-in-Some
exec_for-returns-in-Some t c = λ at. rw (c.in_ok-whole.ensures, c.in-Some.ensures, ← c.as_slice.ensures) (c.turns-flow.ensures c.in_ok-whole.whole)

pub eval_call-returns-in-Builtin : goal.eval_call-returns-in-Builtin
eval_call-returns-in-Builtin t c =
    let p = c.args.run.now in
    let f = c.args.self.now in
    let name = c.args.name.now in
    let same = c.in-Builtin.ensures.callee ∙ ap (λ program. callee_in program name) c.index.ensures in
    λ at. subst (λ callee. GivesValue c.call_builtin.result c.call_builtin.new.run
    (call_at f c.args.variables.now callee c.args.operands.now p)) same c.call_builtin.ensures

pub all_operands-returns-in_err-operands : goal.all_operands-returns-in_err-operands
all_operands-returns-in_err-operands c = grind (arith, common_steps)

pub all_operands-loop-query-preserved : goal.all_operands-loop-query-preserved
all_operands-loop-query-preserved c = grind (arith, common_steps)

pub all_operands-returns : goal.all_operands-returns
all_operands-returns c = grind (arith, common_steps)

pub arguments-returns-in-None : goal.arguments-returns-in-None
arguments-returns-in-None c = grind (arith, common_steps)

pub block-returns-in_err-exec : goal.block-returns-in_err-exec
block-returns-in_err-exec c = grind (arith, common_steps)

pub block-returns-in-Back : goal.block-returns-in-Back
block-returns-in-Back c = grind (arith, common_steps)

pub block-loop-statement-preserved : goal.block-loop-statement-preserved
block-loop-statement-preserved c = grind (arith, common_steps)

pub block-returns : goal.block-returns
block-returns c = grind (arith, common_steps)

pub changes-returns-in_err-value : goal.changes-returns-in_err-value
changes-returns-in_err-value c = grind (arith, common_steps)

pub changes-loop-assignment-preserved : goal.changes-loop-assignment-preserved
changes-loop-assignment-preserved c = grind (arith, common_steps)

pub changes-returns : goal.changes-returns
changes-returns c = grind (arith, common_steps)

pub eval_all-returns-in_err-eval : goal.eval_all-returns-in_err-eval
eval_all-returns-in_err-eval c = grind (arith, common_steps)

pub eval_all-loop-operand-preserved : goal.eval_all-loop-operand-preserved
eval_all-loop-operand-preserved c = grind (arith, common_steps)

pub eval_all-returns : goal.eval_all-returns
eval_all-returns c = grind (arith, common_steps)

pub exec_else-returns-in-None : goal.exec_else-returns-in-None
exec_else-returns-in-None c = grind (arith, common_steps)

pub exec_while-loop-value-smaller : goal.exec_while-loop-value-smaller
exec_while-loop-value-smaller c = grind (arith, common_steps)

pub tests-returns-in_err-value : goal.tests-returns-in_err-value
tests-returns-in_err-value c = grind (arith, common_steps)

pub tests-loop-condition-preserved : goal.tests-loop-condition-preserved
tests-loop-condition-preserved c = grind (arith, common_steps)

pub tests-returns : goal.tests-returns
tests-returns c = grind (arith, common_steps)

pub turns-returns-in_err-decide_so : goal.turns-returns-in_err-decide_so
turns-returns-in_err-decide_so c = grind (arith, common_steps)

pub turns-returns-in_err-turn : goal.turns-returns-in_err-turn
turns-returns-in_err-turn c = grind (arith, common_steps)

pub turns-returns-in-Back : goal.turns-returns-in-Back
turns-returns-in-Back c = grind (arith, common_steps)

pub turns-loop-value-preserved : goal.turns-loop-value-preserved
turns-loop-value-preserved c = grind (arith, common_steps)

pub turns-returns-in_err-decide_so-2 : goal.turns-returns-in_err-decide_so-2
turns-returns-in_err-decide_so-2 c = grind (arith, common_steps)

pub turns-returns : goal.turns-returns
turns-returns c = grind (arith, common_steps)
