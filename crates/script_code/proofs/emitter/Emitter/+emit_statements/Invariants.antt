use Rattle.std.proofs.Common.{◌≡◌, ◌+◌, ◌*◌, ◌++◌, drop, take, length}
use Rattle.script_tree.specs.StatementView.{statement_of, else_of}
use Rattle.script_tree.specs.StatementWeight.{statement_weight, statement_list_weight, else_weight}
use Rattle.script_tree.specs.SyntaxLists.{statements_of}
use Rattle.script_code.specs.Code.{block_code}
use Rattle.script_code.proofs.emitter.Emitter.+emit_statements.Given as goal

abbrev pub decreases-statement : goal.decreases-statement
decreases-statement l = 8 * statement_weight l.s.now + 1

abbrev pub decreases-statement_node : goal.decreases-statement_node
decreases-statement_node l = 8 * statement_weight (statement_of l.at l.node.now)

abbrev pub decreases-first : goal.decreases-first
decreases-first l = 8 * statement_list_weight l.body.now + 2

abbrev pub decreases-second : goal.decreases-second
decreases-second l = 8 * else_weight (else_of l.other.now) + 1

abbrev pub decreases-other : goal.decreases-other
decreases-other l = 8 * else_weight (else_of l.other.now)

abbrev pub decreases-while_loop : goal.decreases-while_loop
decreases-while_loop l = 8 * statement_list_weight l.body.now + 3

abbrev pub decreases-body : goal.decreases-body
decreases-body l = 8 * statement_list_weight l.body.now + 2

abbrev pub decreases-for_loop : goal.decreases-for_loop
decreases-for_loop l = 8 * statement_list_weight l.body.now + 3

abbrev pub decreases-turns : goal.decreases-turns
decreases-turns l = 8 * statement_list_weight l.body.now + 2

abbrev pub decreases-turn : goal.decreases-turn
decreases-turn l = 8 * statement_list_weight l.body.now + 1

abbrev pub decreases-scoped : goal.decreases-scoped
decreases-scoped l = 8 * statement_list_weight l.body.now + 1

abbrev pub decreases-block : goal.decreases-block
decreases-block l = 8 * statement_list_weight l.body.now

-- the code so far, and that of what is left; and the names from before the block are still in scope
abbrev pub invariant-block-loop-s : goal.invariant-block-loop-s
invariant-block-loop-s l = record {
  code : l.code.items ++ block_code l.self l.scope (statements_of (drop l.s-index l.s-items)) ≡ l.initial.code.items
      ++ block_code l.self l.initial.scope (statements_of l.s-items);
  scope : take (length l.initial.scope) l.scope ≡ l.initial.scope;
}
