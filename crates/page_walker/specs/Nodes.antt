-- How many nodes there are in statements, those of their expressions too.
use Rattle.std.specs.Prelude.{ℕ, suc, ◌+◌, max, List, [], ◌∷◌}
use Rattle.script_tree.specs.ExpressionWeight.{expression_weight}
use Rattle.script_tree.specs.Programs.{Program}
use Rattle.script_tree.specs.Syntax.{Statement, let_, set_, if_, while_, for_, echo, status, return, do_, Else, no_else, else_, Statements, no_statement, statement}
use Rattle.script_tree.specs.SyntaxLists.{statements_of}
use Rattle.script_tree.specs.declared.syntax.declaration.Declaration.{Declaration}
use Rattle.script_tree.specs.declared.syntax.declaration.Declaration.TheVariants.{Store, Table, Function, Page}

abbrev mutual
  -- of a statement
  pub statement_nodes : Statement → ℕ
  statement_nodes (let_ at x e) = 2 + expression_weight e
  statement_nodes (set_ at x e) = 2 + expression_weight e
  statement_nodes (if_ at e ss other) = 2 + expression_weight e + statements_nodes ss + else_nodes other
  statement_nodes (while_ at e ss) = 2 + expression_weight e + statements_nodes ss
  statement_nodes (for_ at x e ss) = 2 + expression_weight e + statements_nodes ss
  statement_nodes (echo at e) = 2 + expression_weight e
  statement_nodes (status at e) = 2 + expression_weight e
  statement_nodes (return at e) = 2 + expression_weight e
  statement_nodes (do_ at e) = 2 + expression_weight e

  -- of an `else`, or of none
  pub else_nodes : Else → ℕ
  else_nodes no_else = 1
  else_nodes (else_ ss) = 1 + statements_nodes ss

  -- of statements, one after another
  pub statements_nodes : Statements → ℕ
  statements_nodes no_statement = 1
  statements_nodes (statement s ss) = 1 + statement_nodes s + statements_nodes ss

-- of a block
abbrev pub block_nodes : List Statement → ℕ
block_nodes ss = statements_nodes (statements_of ss)

-- more than the body of any function has
abbrev pub most_nodes : List Declaration → ℕ
most_nodes [] = 1
most_nodes (Store at name ∷ ds) = most_nodes ds
most_nodes (Table at name columns ∷ ds) = most_nodes ds
most_nodes (Function at name parameters body ∷ ds) = max (suc (block_nodes body)) (most_nodes ds)
most_nodes (Page at path body ∷ ds) = most_nodes ds

-- more than the body of any function of the program has
abbrev pub nodes_below : Program → ℕ
nodes_below program = most_nodes program.declarations
