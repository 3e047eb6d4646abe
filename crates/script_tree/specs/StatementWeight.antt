-- How much statements weigh: why a recursion on them ends.
use Rattle.std.specs.Prelude.{ℕ, ◌+◌, List}
use Rattle.script_tree.specs.Syntax.{Statement, let_, set_, if_, while_, for_, echo, status, return, do_, Else, no_else, else_, Statements, no_statement, statement}
use Rattle.script_tree.specs.SyntaxLists.{statements_of}

abbrev mutual
  -- one for a statement, and what its blocks weigh
  pub statement_weight : Statement → ℕ
  statement_weight (let_ at x e) = 1
  statement_weight (set_ at x e) = 1
  statement_weight (if_ at e ss other) = 1 + statements_weight ss + else_weight other
  statement_weight (while_ at e ss) = 1 + statements_weight ss
  statement_weight (for_ at x e ss) = 1 + statements_weight ss
  statement_weight (echo at e) = 1
  statement_weight (status at e) = 1
  statement_weight (return at e) = 1
  statement_weight (do_ at e) = 1

  -- one for an else, and what its block weighs
  pub else_weight : Else → ℕ
  else_weight no_else = 1
  else_weight (else_ ss) = 1 + statements_weight ss

  -- what these statements weigh, with one more for each of them and one for the end
  pub statements_weight : Statements → ℕ
  statements_weight no_statement = 1
  statements_weight (statement s ss) = 1 + statement_weight s + statements_weight ss

-- what statements weigh as a list
abbrev pub statement_list_weight : List Statement → ℕ
statement_list_weight ss = statements_weight (statements_of ss)
