-- What is in a statement weighs less than it.
use Rattle.std.specs.Prelude.{ℕ, ◌+◌, ◌≤◌, List, [], ◌∷◌}
use Rattle.std.proofs.Common.{arith}
use denote.Param.Weighed.{most}
use Rattle.script_tree.specs.Syntax as s
use Rattle.script_tree.specs.StatementWeight.{statement_weight, else_weight, statement_list_weight}
use Rattle.script_tree.specs.StatementView.{statement_of, else_of}
use Rattle.script_tree.specs.declared.syntax.statement.Statement.TheInside.{Inside as InStatement}
use Rattle.script_tree.specs.declared.syntax.statement.StatementNode.{StatementNode}
use Rattle.script_tree.specs.declared.syntax.statement.StatementNode.TheVariants.{Let, Set, If, While, For, Echo, Status, Return, Do}
use Rattle.script_tree.specs.declared.syntax.statement.Else.{Else}
use Rattle.script_tree.specs.declared.syntax.statement.Else.TheVariants.{None, Block}
use Rattle.script_tree.specs.declared.syntax.statement.Statement.TheDeep.{deep-Statement, deep-StatementNode, deep-Else}

-- Each statement of a list weighs less than the list.
each_statement : (ss : List s.Statement) → most (λ t. statement_weight t + 1) ss ≤ statement_list_weight ss
each_statement [] = omega arith
each_statement (t ∷ ss) = omega (arith, each_statement ss)

-- What is in an else weighs less than it.
else_falls : (o : Else) → deep-Else o ≤ else_weight (else_of o)
else_falls None = omega arith
else_falls (Block ss) = omega (arith, each_statement ss)

-- What is in a node weighs less than the statement of the node.
node_falls : (at : ℕ) (n : StatementNode) → deep-StatementNode n ≤ statement_weight (statement_of at n)
node_falls at (Let x e) = omega arith
node_falls at (Set x e) = omega arith
node_falls at (If e ss other) = omega (arith, else_falls other, each_statement ss)
node_falls at (While e ss) = omega (arith, each_statement ss)
node_falls at (For x e ss) = omega (arith, each_statement ss)
node_falls at (Echo e) = omega arith
node_falls at (Status e) = omega arith
node_falls at (Return e) = omega arith
node_falls at (Do e) = omega arith

-- What is in a statement weighs less than it.
pub statement_falls : (a : InStatement) → deep-Statement a ≤ statement_weight (statement_of a.at a.node)
statement_falls a = omega (arith, node_falls a.at a.node)
