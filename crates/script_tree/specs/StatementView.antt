-- The statement that a node of the code stands for.
use Rattle.std.specs.Prelude.{ℕ}
use Rattle.script_tree.specs.Syntax as s
use Rattle.script_tree.specs.SyntaxLists.{statements_of}
use Rattle.script_tree.specs.declared.syntax.statement.StatementNode.{StatementNode}
use Rattle.script_tree.specs.declared.syntax.statement.StatementNode.TheVariants.{Let, Set, If, While, For, Echo, Status, Return, Do}
use Rattle.script_tree.specs.declared.syntax.statement.Else.{Else}
use Rattle.script_tree.specs.declared.syntax.statement.Else.TheVariants.{None, Block}

-- the else that an else of the code stands for
abbrev pub else_of : Else → s.Else
else_of None = s.no_else
else_of (Block ss) = s.else_ (statements_of ss)

-- the statement that a node stands for, at a place
abbrev pub statement_of : ℕ → StatementNode → s.Statement
statement_of at (Let x e) = s.let_ at x e
statement_of at (Set x e) = s.set_ at x e
statement_of at (If e ss other) = s.if_ at e (statements_of ss) (else_of other)
statement_of at (While e ss) = s.while_ at e (statements_of ss)
statement_of at (For x e ss) = s.for_ at x e (statements_of ss)
statement_of at (Echo e) = s.echo at e
statement_of at (Status e) = s.status at e
statement_of at (Return e) = s.return at e
statement_of at (Do e) = s.do_ at e
