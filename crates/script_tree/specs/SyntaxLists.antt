-- Lists as a tree has them within.
use Rattle.std.specs.Prelude.{List, [], ◌∷◌}
use Rattle.script_tree.specs.Syntax.{Expression, Expressions, no_expression, expression, Query, Queries, no_query, query, Condition, Conditions, no_condition, condition, Assignment, Assignments, no_assignment, assignment, Statement, Statements, no_statement, statement}

-- a list of expressions, as it is within a tree
abbrev pub expressions_of : List Expression → Expressions
expressions_of [] = no_expression
expressions_of (e ∷ es) = expression e (expressions_of es)

-- a list of statements of a transaction, as it is within a tree
abbrev pub queries_of : List Query → Queries
queries_of [] = no_query
queries_of (q ∷ qs) = query q (queries_of qs)

-- a list of tests, as it is within a tree
abbrev pub conditions_of : List Condition → Conditions
conditions_of [] = no_condition
conditions_of (c ∷ cs) = condition c.column c.comparison c.value (conditions_of cs)

-- a list of assignments, as it is within a tree
abbrev pub assignments_of : List Assignment → Assignments
assignments_of [] = no_assignment
assignments_of (a ∷ as') = assignment a.column a.value (assignments_of as')

-- a list of statements, as it is within a tree
abbrev pub statements_of : List Statement → Statements
statements_of [] = no_statement
statements_of (s ∷ ss) = statement s (statements_of ss)
