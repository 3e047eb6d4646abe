use Rattle.std.proofs.Common.{◌≡◌, ◌+◌, ◌*◌, drop}
use Rattle.script_tree.specs.StatementView.{statement_of, else_of}
use Rattle.script_tree.specs.StatementWeight.{statement_weight, statements_weight, else_weight}
use Rattle.script_tree.specs.SyntaxLists.{statements_of}
use Rattle.script_check.specs.Least.{lower}
use Rattle.script_check.specs.Validity.{block_faults}
use Rattle.script_check.proofs.Blocks.{Grows}
use Rattle.script_check.proofs.statement.+statement.Given as goal

abbrev pub decreases-check_block : goal.decreases-check_block
decreases-check_block l = 4 * statements_weight (statements_of l.block.now)

abbrev pub decreases-check_statement : goal.decreases-check_statement
decreases-check_statement l = 4 * statement_weight l.statement.now + 2

abbrev pub decreases-check_statement_node : goal.decreases-check_statement_node
decreases-check_statement_node l = 4 * statement_weight (statement_of l.at l.node.now) + 1

abbrev pub decreases-check_else : goal.decreases-check_else
decreases-check_else l = 4 * else_weight (else_of l.otherwise.now) + 1

abbrev pub invariant-check_block-loop-statement : goal.invariant-check_block-loop-statement
invariant-check_block-loop-statement l = record {
  grows : Grows l.fn.scope l.scope;
  faults : lower l.found.least (block_faults l.index l.scope (drop l.statement-index l.block))
      ≡ lower l.fn.found.least (block_faults l.index l.fn.scope l.block);
}
