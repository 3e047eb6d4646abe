use Rattle.std.proofs.Common.{◌+◌, ◌*◌, drop}
use Rattle.script_tree.specs.StatementView.{statement_of, else_of}
use Rattle.script_tree.specs.StatementWeight.{statement_weight, else_weight, statements_weight}
use Rattle.script_tree.specs.SyntaxLists.{statements_of}
use Rattle.script_print.specs.Pieces.{statements}
use Rattle.script_print.proofs.Parts.{IsLeft}
use Rattle.script_print.proofs.statement.+statement.Given as goal

abbrev pub decreases-print_statement : goal.decreases-print_statement
decreases-print_statement l = 4 * statement_weight l.statement.now + 2

abbrev pub decreases-print_statement_node : goal.decreases-print_statement_node
decreases-print_statement_node l = 4 * statement_weight (statement_of 0 l.node.now) + 1

abbrev pub decreases-print_else : goal.decreases-print_else
decreases-print_else l = 4 * else_weight (else_of l.other.now)

abbrev pub decreases-print_block : goal.decreases-print_block
decreases-print_block l = 4 * statements_weight (statements_of l.body.now) + 1

abbrev pub decreases-print_statements : goal.decreases-print_statements
decreases-print_statements l = 4 * statements_weight (statements_of l.body.now)

abbrev pub invariant-print_statements-loop-statement : goal.invariant-print_statements-loop-statement
invariant-print_statements-loop-statement l = IsLeft (statements (drop l.statement-index l.body)) (statements l.body) l.fn.printer l.printer
