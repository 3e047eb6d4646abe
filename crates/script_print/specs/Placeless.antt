-- A tree without its places: each is 0.
use Rattle.std.specs.Prelude.{List, map}
use Rattle.script_tree.specs.Programs.{Program}
use Rattle.script_tree.specs.Syntax.{Expression, number, text, truth, null, bracket, variable, call, list, transact, unary, binary, and_, or_, index, Expressions, no_expression, expression, Query, insert, select, update, delete, expect, Queries, no_query, query, Conditions, no_condition, condition, Assignments, no_assignment, assignment, Statement, let_, set_, if_, while_, for_, echo, status, return, do_, Else, no_else, else_, Statements, no_statement, statement}
use Rattle.script_tree.specs.declared.syntax.name.Name.{Name}
use Rattle.script_tree.specs.declared.syntax.declaration.Declaration.{Declaration}
use Rattle.script_tree.specs.declared.syntax.declaration.Declaration.TheVariants as declared

-- a name without its place
abbrev pub placeless_name : Name → Name
placeless_name x = record { at = 0; text = x.text }

-- names without their places
abbrev pub placeless_names : List Name → List Name
placeless_names xs = map placeless_name xs

abbrev mutual
  -- an expression without its places
  pub placeless_expression : Expression → Expression
  placeless_expression (number at n) = number 0 n
  placeless_expression (text at bytes) = text 0 bytes
  placeless_expression (truth at b) = truth 0 b
  placeless_expression (null at) = null 0
  placeless_expression (bracket at e) = bracket 0 (placeless_expression e)
  placeless_expression (variable at x) = variable 0 x
  placeless_expression (call at f es) = call 0 f (placeless_expressions es)
  placeless_expression (list at es) = list 0 (placeless_expressions es)
  placeless_expression (transact at qs) = transact 0 (placeless_queries qs)
  placeless_expression (unary at operator e) = unary 0 operator (placeless_expression e)
  placeless_expression (binary at operator left right) = binary 0 operator (placeless_expression left) (placeless_expression right)
  placeless_expression (and_ at left right) = and_ 0 (placeless_expression left) (placeless_expression right)
  placeless_expression (or_ at left right) = or_ 0 (placeless_expression left) (placeless_expression right)
  placeless_expression (index at whole place) = index 0 (placeless_expression whole) (placeless_expression place)

  -- expressions without their places
  pub placeless_expressions : Expressions → Expressions
  placeless_expressions no_expression = no_expression
  placeless_expressions (expression e es) = expression (placeless_expression e) (placeless_expressions es)

  -- a transaction's statement without its places
  pub placeless_query : Query → Query
  placeless_query (insert at t es) = insert 0 (placeless_name t) (placeless_expressions es)
  placeless_query (select at columns t cs) = select 0 (placeless_names columns) (placeless_name t) (placeless_conditions cs)
  placeless_query (update at t sets cs) = update 0 (placeless_name t) (placeless_assignments sets) (placeless_conditions cs)
  placeless_query (delete at t cs) = delete 0 (placeless_name t) (placeless_conditions cs)
  placeless_query (expect at e t cs) = expect 0 (placeless_expression e) (placeless_name t) (placeless_conditions cs)

  -- a transaction's statements without their places
  pub placeless_queries : Queries → Queries
  placeless_queries no_query = no_query
  placeless_queries (query q qs) = query (placeless_query q) (placeless_queries qs)

  -- tests without their places
  pub placeless_conditions : Conditions → Conditions
  placeless_conditions no_condition = no_condition
  placeless_conditions (condition x c e cs) = condition (placeless_name x) c (placeless_expression e) (placeless_conditions cs)

  -- assignments without their places
  pub placeless_assignments : Assignments → Assignments
  placeless_assignments no_assignment = no_assignment
  placeless_assignments (assignment x e sets) = assignment (placeless_name x) (placeless_expression e) (placeless_assignments sets)

abbrev mutual
  -- a statement without its places
  pub placeless_statement : Statement → Statement
  placeless_statement (let_ at x e) = let_ 0 (placeless_name x) (placeless_expression e)
  placeless_statement (set_ at x e) = set_ 0 (placeless_name x) (placeless_expression e)
  placeless_statement (if_ at e body other) = if_ 0 (placeless_expression e) (placeless_statements body) (placeless_else other)
  placeless_statement (while_ at e body) = while_ 0 (placeless_expression e) (placeless_statements body)
  placeless_statement (for_ at x e body) = for_ 0 (placeless_name x) (placeless_expression e) (placeless_statements body)
  placeless_statement (echo at e) = echo 0 (placeless_expression e)
  placeless_statement (status at e) = status 0 (placeless_expression e)
  placeless_statement (return at e) = return 0 (placeless_expression e)
  placeless_statement (do_ at e) = do_ 0 (placeless_expression e)

  -- an else without its places, or none
  pub placeless_else : Else → Else
  placeless_else no_else = no_else
  placeless_else (else_ body) = else_ (placeless_statements body)

  -- a block's statements without their places
  pub placeless_statements : Statements → Statements
  placeless_statements no_statement = no_statement
  placeless_statements (statement s ss) = statement (placeless_statement s) (placeless_statements ss)

-- a declaration without its places
abbrev pub placeless_declaration : Declaration → Declaration
placeless_declaration (declared.Store at name) = declared.Store 0 (placeless_name name)
placeless_declaration (declared.Table at name columns) = declared.Table 0 (placeless_name name) (placeless_names columns)
placeless_declaration (declared.Function at name parameters body) =
    declared.Function 0 (placeless_name name) (placeless_names parameters) (map placeless_statement body)
placeless_declaration (declared.Page at path body) = declared.Page 0 (placeless_name path) (map placeless_statement body)

-- declarations without their places
abbrev pub placeless_declarations : List Declaration → List Declaration
placeless_declarations ds = map placeless_declaration ds

-- a program without its places, of the same version
abbrev pub placeless : Program → Program
placeless tree = record { version = tree.version; declarations = placeless_declarations tree.declarations }
