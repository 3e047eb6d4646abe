-- How much an expression weighs: why a recursion on it ends.
use Rattle.std.specs.Prelude.{ℕ, ◌+◌, List}
use Rattle.script_tree.specs.Syntax.{Expression, number, text, truth, null, bracket, variable, call, list, transact, unary, binary, and_, or_, index, Expressions, no_expression, expression, Query, insert, select, update, delete, expect, Queries, no_query, query, Conditions, no_condition, condition, Assignments, no_assignment, assignment, Condition, Assignment}
use Rattle.script_tree.specs.SyntaxLists.{expressions_of, queries_of, conditions_of, assignments_of}

abbrev mutual
  -- the nodes of an expression
  pub expression_weight : Expression → ℕ
  expression_weight (number at n) = 1
  expression_weight (text at bytes) = 1
  expression_weight (truth at b) = 1
  expression_weight (null at) = 1
  expression_weight (bracket at e) = 1 + expression_weight e
  expression_weight (variable at x) = 1
  expression_weight (call at f es) = 1 + expressions_weight es
  expression_weight (list at es) = 1 + expressions_weight es
  expression_weight (transact at qs) = 1 + queries_weight qs
  expression_weight (unary at op e) = 1 + expression_weight e
  expression_weight (binary at op a b) = 1 + expression_weight a + expression_weight b
  expression_weight (and_ at a b) = 1 + expression_weight a + expression_weight b
  expression_weight (or_ at a b) = 1 + expression_weight a + expression_weight b
  expression_weight (index at a b) = 1 + expression_weight a + expression_weight b

  -- the nodes of expressions in a list, with one more for each of them and one for its end
  pub expressions_weight : Expressions → ℕ
  expressions_weight no_expression = 1
  expressions_weight (expression e es) = 1 + expression_weight e + expressions_weight es

  -- the nodes of a statement of a transaction
  pub query_weight : Query → ℕ
  query_weight (insert at table es) = 1 + expressions_weight es
  query_weight (select at columns table cs) = 1 + conditions_weight cs
  query_weight (update at table as' cs) = 1 + assignments_weight as' + conditions_weight cs
  query_weight (delete at table cs) = 1 + conditions_weight cs
  query_weight (expect at e table cs) = 1 + expression_weight e + conditions_weight cs

  -- the nodes of the statements of a transaction, counted as in a list of expressions
  pub queries_weight : Queries → ℕ
  queries_weight no_query = 1
  queries_weight (query q qs) = 1 + query_weight q + queries_weight qs

  -- the nodes of the tests of a where, counted so
  pub conditions_weight : Conditions → ℕ
  conditions_weight no_condition = 1
  conditions_weight (condition column comparison e cs) = 1 + expression_weight e + conditions_weight cs

  -- the nodes of the assignments of an update, counted so
  pub assignments_weight : Assignments → ℕ
  assignments_weight no_assignment = 1
  assignments_weight (assignment column e as') = 1 + expression_weight e + assignments_weight as'

-- what expressions weigh as a list
abbrev pub expression_list_weight : List Expression → ℕ
expression_list_weight es = expressions_weight (expressions_of es)

-- what statements of a transaction weigh as a list
abbrev pub query_list_weight : List Query → ℕ
query_list_weight qs = queries_weight (queries_of qs)

-- what tests weigh as a list
abbrev pub condition_list_weight : List Condition → ℕ
condition_list_weight cs = conditions_weight (conditions_of cs)

-- what assignments weigh as a list
abbrev pub assignment_list_weight : List Assignment → ℕ
assignment_list_weight as' = assignments_weight (assignments_of as')
