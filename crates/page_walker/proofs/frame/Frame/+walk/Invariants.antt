use Rattle.std.proofs.Common.{ℕ, ◌+◌, ◌*◌, ◌≡◌, ◌≤◌, ◌++◌, length, map, drop}
use Rattle.script_tree.specs.Datum.{Datum}
use Rattle.script_tree.specs.ExpressionView.{expression_of, query_of, condition_of, assignment_of}
use Rattle.script_tree.specs.ExpressionWeight.{expression_weight, query_weight, expression_list_weight, query_list_weight, condition_list_weight, assignment_list_weight}
use Rattle.script_tree.specs.StatementView.{statement_of, else_of}
use Rattle.script_tree.specs.Syntax.{while_}
use Rattle.script_tree.specs.SyntaxLists.{statements_of}
use Rattle.script_meaning.specs.Evaluate.{exec}
use Rattle.script_meaning.specs.Run.{Progress, after, give}
use Rattle.script_values.specs.Queries.{unchecked_of}
use Rattle.script_check.specs.FoundByName.{table_of}
use Rattle.page_walker.specs.Frames.{later_in, nodes_left, value_at, values_at, all_operands_at, tests_at, changes_at, block_at, turns_at}
use Rattle.page_walker.specs.Nodes.{statement_nodes, else_nodes, block_nodes}
use Rattle.page_walker.specs.Rows.{climbs}
use Rattle.page_walker.proofs.Rows.{AreWithin}
use Rattle.page_walker.proofs.frame.Frame.+walk.Given as goal

abbrev pub decreases-eval : goal.decreases-eval
decreases-eval l = nodes_left l.self.now.walker.now.program l.self.now.fuel + (4 * expression_weight l.e.now + 2)

abbrev pub decreases-eval_first : goal.decreases-eval_first
decreases-eval_first l = nodes_left l.self.now.walker.now.program l.self.now.fuel + (4 * expression_weight l.e.now + 3)

abbrev pub decreases-eval_atom : goal.decreases-eval_atom
decreases-eval_atom l = nodes_left l.self.now.walker.now.program l.self.now.fuel + (4 * expression_weight (expression_of l.at l.node.now) + 1)

abbrev pub decreases-climb : goal.decreases-climb
decreases-climb l = nodes_left l.self.now.walker.now.program l.self.now.fuel + (4 * expression_weight (expression_of l.at l.node.now))

abbrev pub decreases-climb_binary : goal.decreases-climb_binary
decreases-climb_binary l = nodes_left l.self.now.walker.now.program l.self.now.fuel + (4 * expression_weight l.b.now + 3)

abbrev pub decreases-climb_and : goal.decreases-climb_and
decreases-climb_and l = nodes_left l.self.now.walker.now.program l.self.now.fuel + (4 * expression_weight l.b.now + 3)

abbrev pub decreases-climb_or : goal.decreases-climb_or
decreases-climb_or l = nodes_left l.self.now.walker.now.program l.self.now.fuel + (4 * expression_weight l.b.now + 3)

abbrev pub decreases-climb_index : goal.decreases-climb_index
decreases-climb_index l = nodes_left l.self.now.walker.now.program l.self.now.fuel + (4 * expression_weight l.b.now + 3)

abbrev pub decreases-eval_list : goal.decreases-eval_list
decreases-eval_list l = nodes_left l.self.now.walker.now.program l.self.now.fuel + (4 * expression_list_weight l.members.now + 3)

abbrev pub decreases-eval_transact : goal.decreases-eval_transact
decreases-eval_transact l = nodes_left l.self.now.walker.now.program l.self.now.fuel + (4 * query_list_weight l.queries.now + 3)

abbrev pub decreases-eval_call : goal.decreases-eval_call
decreases-eval_call l = nodes_left l.self.now.walker.now.program l.self.now.fuel + (4 * expression_list_weight l.operands.now + 4)

abbrev pub decreases-call_own : goal.decreases-call_own
decreases-call_own l = nodes_left l.self.now.walker.now.program l.self.now.fuel + (4 * expression_list_weight l.operands.now + 3)

abbrev pub decreases-enter : goal.decreases-enter
decreases-enter l = nodes_left l.self.now.walker.now.program l.self.now.fuel

abbrev pub decreases-call_builtin : goal.decreases-call_builtin
decreases-call_builtin l = nodes_left l.self.now.walker.now.program l.self.now.fuel + (4 * expression_list_weight l.operands.now + 3)

abbrev pub decreases-call_unknown : goal.decreases-call_unknown
decreases-call_unknown l = nodes_left l.self.now.walker.now.program l.self.now.fuel + (4 * expression_list_weight l.operands.now + 3)

abbrev pub decreases-arguments : goal.decreases-arguments
decreases-arguments l = nodes_left l.self.now.walker.now.program l.self.now.fuel + (4 * expression_list_weight l.operands.now + 2)

abbrev pub decreases-eval_all : goal.decreases-eval_all
decreases-eval_all l = nodes_left l.self.now.walker.now.program l.self.now.fuel + (4 * expression_list_weight l.operands.now)

abbrev pub decreases-all_operands : goal.decreases-all_operands
decreases-all_operands l = nodes_left l.self.now.walker.now.program l.self.now.fuel + (4 * query_list_weight l.queries.now)

abbrev pub decreases-operands : goal.decreases-operands
decreases-operands l = nodes_left l.self.now.walker.now.program l.self.now.fuel + (4 * query_weight l.query.now + 2)

abbrev pub decreases-node_operands : goal.decreases-node_operands
decreases-node_operands l = nodes_left l.self.now.walker.now.program l.self.now.fuel + (4 * query_weight (query_of l.at l.node.now) + 1)

abbrev pub decreases-tests : goal.decreases-tests
decreases-tests l = nodes_left l.self.now.walker.now.program l.self.now.fuel + (4 * condition_list_weight (map condition_of l.conditions.now))

abbrev pub decreases-changes : goal.decreases-changes
decreases-changes l = nodes_left l.self.now.walker.now.program l.self.now.fuel + (4 * assignment_list_weight (map assignment_of l.assignments.now))

abbrev pub decreases-block : goal.decreases-block
decreases-block l = nodes_left l.self.now.walker.now.program l.self.now.fuel + (4 * block_nodes l.body.now)

abbrev pub decreases-scoped : goal.decreases-scoped
decreases-scoped l = nodes_left l.self.now.walker.now.program l.self.now.fuel + (4 * block_nodes l.body.now + 1)

abbrev pub decreases-exec : goal.decreases-exec
decreases-exec l = nodes_left l.self.now.walker.now.program l.self.now.fuel + (4 * statement_nodes l.s.now + 2)

abbrev pub decreases-exec_node : goal.decreases-exec_node
decreases-exec_node l = nodes_left l.self.now.walker.now.program l.self.now.fuel + (4 * statement_nodes (statement_of l.at l.node.now) + 1)

abbrev pub decreases-exec_let : goal.decreases-exec_let
decreases-exec_let l = nodes_left l.self.now.walker.now.program l.self.now.fuel + (4 * expression_weight l.e.now + 6)

abbrev pub decreases-exec_set : goal.decreases-exec_set
decreases-exec_set l = nodes_left l.self.now.walker.now.program l.self.now.fuel + (4 * expression_weight l.e.now + 6)

abbrev pub decreases-exec_echo : goal.decreases-exec_echo
decreases-exec_echo l = nodes_left l.self.now.walker.now.program l.self.now.fuel + (4 * expression_weight l.e.now + 6)

abbrev pub decreases-exec_status : goal.decreases-exec_status
decreases-exec_status l = nodes_left l.self.now.walker.now.program l.self.now.fuel + (4 * expression_weight l.e.now + 6)

abbrev pub decreases-exec_return : goal.decreases-exec_return
decreases-exec_return l = nodes_left l.self.now.walker.now.program l.self.now.fuel + (4 * expression_weight l.e.now + 6)

abbrev pub decreases-exec_do : goal.decreases-exec_do
decreases-exec_do l = nodes_left l.self.now.walker.now.program l.self.now.fuel + (4 * expression_weight l.e.now + 6)

abbrev pub decreases-exec_if : goal.decreases-exec_if
decreases-exec_if l = nodes_left l.self.now.walker.now.program l.self.now.fuel + (4 *
    (expression_weight l.e.now + block_nodes l.body.now + else_nodes (else_of l.other.now)) + 6)

abbrev pub decreases-exec_else : goal.decreases-exec_else
decreases-exec_else l = nodes_left l.self.now.walker.now.program l.self.now.fuel + (4 * else_nodes (else_of l.other.now))

abbrev pub decreases-exec_while : goal.decreases-exec_while
decreases-exec_while l = nodes_left l.self.now.walker.now.program l.self.now.fuel + (4 * (expression_weight l.e.now + block_nodes l.body.now) + 6)

abbrev pub decreases-exec_for : goal.decreases-exec_for
decreases-exec_for l = nodes_left l.self.now.walker.now.program l.self.now.fuel + (4 * (expression_weight l.e.now + block_nodes l.body.now) + 6)

abbrev pub decreases-turns : goal.decreases-turns
decreases-turns l = nodes_left l.self.now.walker.now.program l.self.now.fuel + (4 * block_nodes l.body.now + 3)

abbrev pub decreases-turn : goal.decreases-turn
decreases-turn l = nodes_left l.self.now.walker.now.program l.self.now.fuel + (4 * block_nodes l.body.now + 2)

-- the expression has the value of the inner one, and then those that wait do the rest
abbrev pub invariant-eval_first-loop-first : goal.invariant-eval_first-loop-first
invariant-eval_first-loop-first l = record {
  told : (p : Progress) → after (value_at l.self l.variables l.inner p) (climbs l.self l.variables l.waiting.items) ≡ value_at l.self l.variables l.e p;
  inner : expression_weight l.inner ≤ expression_weight l.e;
  waiting : AreWithin (expression_weight l.e) l.waiting.items;
}

-- those that wait do the rest
abbrev pub invariant-eval_first-loop-outer : goal.invariant-eval_first-loop-outer
invariant-eval_first-loop-outer l = record {
  told : climbs l.self l.variables l.waiting.items l.value l.run ≡ value_at l.self l.variables l.e l.fn.run;
  waiting : AreWithin (expression_weight l.e) l.waiting.items;
}

abbrev pub decreases-eval_first-loop-outer : goal.decreases-eval_first-loop-outer
decreases-eval_first-loop-outer l = length l.waiting.items

-- the values so far, and those of the operands that are left, are all values
abbrev pub invariant-eval_all-loop-operand : goal.invariant-eval_all-loop-operand
invariant-eval_all-loop-operand l = record {
  told : after (values_at l.self l.variables (drop l.operand-index l.operands) l.run)
      (λ ds. give (l.values.items ++ ds)) ≡ values_at l.self l.variables l.operands l.initial.run;
}

abbrev pub invariant-all_operands-loop-query : goal.invariant-all_operands-loop-query
invariant-all_operands-loop-query l = record {
  told : after (all_operands_at l.self l.variables (drop l.query-index l.query-items) l.run)
      (λ us. give (map unchecked_of l.all.items ++ us))
      ≡ all_operands_at l.self l.variables l.query-items l.initial.run;
}

abbrev pub invariant-tests-loop-condition : goal.invariant-tests-loop-condition
invariant-tests-loop-condition l = record {
  told : after (tests_at l.self l.variables (table_of l.table) (drop l.condition-index l.condition-items) l.run)
      (λ ts. give (l.tests ++ ts)) ≡ tests_at l.self l.variables (table_of l.table) l.condition-items l.initial.run;
}

abbrev pub invariant-changes-loop-assignment : goal.invariant-changes-loop-assignment
invariant-changes-loop-assignment l = record {
  told : after (changes_at l.self l.variables (table_of l.table) (drop l.assignment-index l.assignment-items) l.run)
      (λ cs. give (l.changes ++ cs)) ≡ changes_at l.self l.variables
      (table_of l.table) l.assignment-items l.initial.run;
}

-- what is left of the block does the rest
abbrev pub invariant-block-loop-statement : goal.invariant-block-loop-statement
invariant-block-loop-statement l = record {
  told : block_at l.self (drop l.statement-index l.statement-items) l.variables l.run ≡ block_at l.self l.statement-items l.initial.variables l.initial.run;
}

-- what is left of the turns does the rest
abbrev pub invariant-turns-loop-value : goal.invariant-turns-loop-value
invariant-turns-loop-value l = record {
  told : (whole : Datum) → turns_at l.self whole l.x.text l.body l.variables (drop l.value-index l.values) l.run
      ≡ turns_at l.self whole l.x.text l.body l.initial.variables l.values l.initial.run;
}

-- the loop from here on does the rest, in one of the runs that are left
abbrev pub invariant-exec_while-loop-value : goal.invariant-exec_while-loop-value
invariant-exec_while-loop-value l =
    let w = l.self.walker.now in
    record {
      within : l.left ≤ l.self.fuel;
      told : (at : ℕ) → exec w (later_in w l.left) l.self.depth
          (while_ at l.e (statements_of l.body)) l.variables l.run
          ≡ exec w (later_in w l.self.fuel) l.self.depth
          (while_ at l.e (statements_of l.body)) l.fn.variables l.fn.run;
    }

abbrev pub decreases-exec_while-loop-value : goal.decreases-exec_while-loop-value
decreases-exec_while-loop-value l = l.left
