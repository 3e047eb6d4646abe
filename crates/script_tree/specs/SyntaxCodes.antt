-- How a proof stores a syntax tree. Written by tools/syntax_codes.py.
use Rattle.std.specs.Prelude.{◌≡◌, ℕ, List, refl}
use Rattle.std.proofs.Common.{ap, arith}
use Rattle.std.specs.Coded.{Coded, coded_ℕ, coded_ℤ, coded_bool, coded_list}
use base.Stored.{Gv, gnil, gnum, gcons, num}
use Rattle.script_tree.specs.contracts.comparison.Comparison as comparison_row
use Rattle.script_tree.specs.contracts.syntax.operator.UnaryOperator as unary_row
use Rattle.script_tree.specs.contracts.syntax.operator.BinaryOperator as binary_row
use Rattle.script_tree.specs.contracts.syntax.name.Name as name_row
use Rattle.script_tree.specs.declared.syntax.name.Name.{Name}
use Rattle.script_tree.specs.Syntax.{Expression, number, text, truth, null, bracket, variable, call, list, transact, unary, binary, and_, or_, index}
use Rattle.script_tree.specs.Syntax.{Expressions, no_expression, expression}
use Rattle.script_tree.specs.Syntax.{Query, insert, select, update, delete, expect}
use Rattle.script_tree.specs.Syntax.{Queries, no_query, query}
use Rattle.script_tree.specs.Syntax.{Conditions, no_condition, condition}
use Rattle.script_tree.specs.Syntax.{Assignments, no_assignment, assignment}
use Rattle.script_tree.specs.Syntax.{Statement, let_, set_, if_, while_, for_, echo, status, return, do_}
use Rattle.script_tree.specs.Syntax.{Else, no_else, else_}
use Rattle.script_tree.specs.Syntax.{Statements, no_statement, statement}

-- how a text is stored
abbrev pub coded_bytes : Coded (List ℕ)
coded_bytes = coded_list coded_ℕ

-- how a name is stored
abbrev pub coded_name : Coded Name
coded_name = name_row.the_row.coded

-- how a list of names is stored
abbrev pub coded_names : Coded (List Name)
coded_names = coded_list coded_name

-- what is stored first
abbrev head : Gv → Gv
head gnil = gnil
head (gnum n) = gnil
head (gcons a b) = a

-- what is stored behind the first
abbrev tail : Gv → Gv
tail gnil = gnil
tail (gnum n) = gnil
tail (gcons a b) = b

-- the number that is stored first, which tells the forms apart
abbrev tag : Gv → ℕ
tag g = num (head g)

abbrev mutual
  -- an expression as it is stored: the number of its form, then its parts
  pub expression_code : Expression → Gv
  expression_code (number a0 a1) = gcons (gnum 0) (gcons (coded_ℕ.code a0) (gcons (coded_ℤ.code a1) gnil))
  expression_code (text a0 a1) = gcons (gnum 1) (gcons (coded_ℕ.code a0) (gcons (coded_bytes.code a1) gnil))
  expression_code (truth a0 a1) = gcons (gnum 2) (gcons (coded_ℕ.code a0) (gcons (coded_bool.code a1) gnil))
  expression_code (null a0) = gcons (gnum 3) (gcons (coded_ℕ.code a0) gnil)
  expression_code (bracket a0 a1) = gcons (gnum 4) (gcons (coded_ℕ.code a0) (gcons (expression_code a1) gnil))
  expression_code (variable a0 a1) = gcons (gnum 5) (gcons (coded_ℕ.code a0) (gcons (coded_bytes.code a1) gnil))
  expression_code (call a0 a1 a2) = gcons (gnum 6) (gcons (coded_ℕ.code a0) (gcons (coded_bytes.code a1) (gcons (expressions_code a2) gnil)))
  expression_code (list a0 a1) = gcons (gnum 7) (gcons (coded_ℕ.code a0) (gcons (expressions_code a1) gnil))
  expression_code (transact a0 a1) = gcons (gnum 8) (gcons (coded_ℕ.code a0) (gcons (queries_code a1) gnil))
  expression_code (unary a0 a1 a2) = gcons (gnum 9) (gcons (coded_ℕ.code a0) (gcons (unary_row.the_row.coded.code a1) (gcons (expression_code a2) gnil)))
  expression_code (binary a0 a1 a2 a3) = gcons (gnum 10) (gcons (coded_ℕ.code a0) (gcons (binary_row.the_row.coded.code a1) (gcons (expression_code a2) (gcons (expression_code a3) gnil))))
  expression_code (and_ a0 a1 a2) = gcons (gnum 11) (gcons (coded_ℕ.code a0) (gcons (expression_code a1) (gcons (expression_code a2) gnil)))
  expression_code (or_ a0 a1 a2) = gcons (gnum 12) (gcons (coded_ℕ.code a0) (gcons (expression_code a1) (gcons (expression_code a2) gnil)))
  expression_code (index a0 a1 a2) = gcons (gnum 13) (gcons (coded_ℕ.code a0) (gcons (expression_code a1) (gcons (expression_code a2) gnil)))

  -- a list of expressions as it is stored
  pub expressions_code : Expressions → Gv
  expressions_code no_expression = gcons (gnum 0) gnil
  expressions_code (expression a0 a1) = gcons (gnum 1) (gcons (expression_code a0) (gcons (expressions_code a1) gnil))

  -- a statement of a transaction as it is stored
  pub query_code : Query → Gv
  query_code (insert a0 a1 a2) = gcons (gnum 0) (gcons (coded_ℕ.code a0) (gcons (coded_name.code a1) (gcons (expressions_code a2) gnil)))
  query_code (select a0 a1 a2 a3) = gcons (gnum 1) (gcons (coded_ℕ.code a0) (gcons (coded_names.code a1) (gcons (coded_name.code a2) (gcons (conditions_code a3) gnil))))
  query_code (update a0 a1 a2 a3) = gcons (gnum 2) (gcons (coded_ℕ.code a0) (gcons (coded_name.code a1) (gcons (assignments_code a2) (gcons (conditions_code a3) gnil))))
  query_code (delete a0 a1 a2) = gcons (gnum 3) (gcons (coded_ℕ.code a0) (gcons (coded_name.code a1) (gcons (conditions_code a2) gnil)))
  query_code (expect a0 a1 a2 a3) = gcons (gnum 4) (gcons (coded_ℕ.code a0) (gcons (expression_code a1) (gcons (coded_name.code a2) (gcons (conditions_code a3) gnil))))

  -- the statements of a transaction as they are stored
  pub queries_code : Queries → Gv
  queries_code no_query = gcons (gnum 0) gnil
  queries_code (query a0 a1) = gcons (gnum 1) (gcons (query_code a0) (gcons (queries_code a1) gnil))

  -- the tests of a where as they are stored
  pub conditions_code : Conditions → Gv
  conditions_code no_condition = gcons (gnum 0) gnil
  conditions_code (condition a0 a1 a2 a3) =
      gcons (gnum 1) (gcons (coded_name.code a0)
      (gcons (comparison_row.the_row.coded.code a1) (gcons (expression_code a2) (gcons (conditions_code a3) gnil))))

  -- the assignments of an update as they are stored
  pub assignments_code : Assignments → Gv
  assignments_code no_assignment = gcons (gnum 0) gnil
  assignments_code (assignment a0 a1 a2) = gcons (gnum 1) (gcons (coded_name.code a0) (gcons (expression_code a1) (gcons (assignments_code a2) gnil)))

mutual
  -- Expressions that are stored alike are one.
  pub expression_inj : (x y : Expression) → expression_code x ≡ expression_code y → x ≡ y
  expression_inj (number a0 a1) (number b0 b1) p =
      λ i. number (coded_ℕ.inj a0 b0 (ap (λ g. head (tail g)) p) i) (coded_ℤ.inj a1 b1 (ap (λ g. head (tail (tail g))) p) i)
  expression_inj (text a0 a1) (text b0 b1) p =
      λ i. text (coded_ℕ.inj a0 b0 (ap (λ g. head (tail g)) p) i) (coded_bytes.inj a1 b1 (ap (λ g. head (tail (tail g))) p) i)
  expression_inj (truth a0 a1) (truth b0 b1) p =
      λ i. truth (coded_ℕ.inj a0 b0 (ap (λ g. head (tail g)) p) i) (coded_bool.inj a1 b1 (ap (λ g. head (tail (tail g))) p) i)
  expression_inj (null a0) (null b0) p =
      λ i. null (coded_ℕ.inj a0 b0 (ap (λ g. head (tail g)) p) i)
  expression_inj (bracket a0 a1) (bracket b0 b1) p =
      λ i. bracket (coded_ℕ.inj a0 b0 (ap (λ g. head (tail g)) p) i) (expression_inj a1 b1 (ap (λ g. head (tail (tail g))) p) i)
  expression_inj (variable a0 a1) (variable b0 b1) p =
      λ i. variable (coded_ℕ.inj a0 b0 (ap (λ g. head (tail g)) p) i) (coded_bytes.inj a1 b1 (ap (λ g. head (tail (tail g))) p) i)
  expression_inj (call a0 a1 a2) (call b0 b1 b2) p =
      λ i. call (coded_ℕ.inj a0 b0 (ap (λ g. head (tail g)) p) i)
      (coded_bytes.inj a1 b1 (ap (λ g. head (tail (tail g))) p) i)
      (expressions_inj a2 b2 (ap (λ g. head (tail (tail (tail g)))) p) i)
  expression_inj (list a0 a1) (list b0 b1) p =
      λ i. list (coded_ℕ.inj a0 b0 (ap (λ g. head (tail g)) p) i) (expressions_inj a1 b1 (ap (λ g. head (tail (tail g))) p) i)
  expression_inj (transact a0 a1) (transact b0 b1) p =
      λ i. transact (coded_ℕ.inj a0 b0 (ap (λ g. head (tail g)) p) i) (queries_inj a1 b1 (ap (λ g. head (tail (tail g))) p) i)
  expression_inj (unary a0 a1 a2) (unary b0 b1 b2) p =
      λ i. unary (coded_ℕ.inj a0 b0 (ap (λ g. head (tail g)) p) i)
      (unary_row.the_row.coded.inj a1 b1 (ap (λ g. head (tail (tail g))) p) i)
      (expression_inj a2 b2 (ap (λ g. head (tail (tail (tail g)))) p) i)
  expression_inj (binary a0 a1 a2 a3) (binary b0 b1 b2 b3) p =
      λ i. binary (coded_ℕ.inj a0 b0 (ap (λ g. head (tail g)) p) i)
      (binary_row.the_row.coded.inj a1 b1 (ap (λ g. head (tail (tail g))) p) i)
      (expression_inj a2 b2 (ap (λ g. head (tail (tail (tail g)))) p) i)
      (expression_inj a3 b3 (ap (λ g. head (tail (tail (tail (tail g))))) p) i)
  expression_inj (and_ a0 a1 a2) (and_ b0 b1 b2) p =
      λ i. and_ (coded_ℕ.inj a0 b0 (ap (λ g. head (tail g)) p) i)
      (expression_inj a1 b1 (ap (λ g. head (tail (tail g))) p) i)
      (expression_inj a2 b2 (ap (λ g. head (tail (tail (tail g)))) p) i)
  expression_inj (or_ a0 a1 a2) (or_ b0 b1 b2) p =
      λ i. or_ (coded_ℕ.inj a0 b0 (ap (λ g. head (tail g)) p) i)
      (expression_inj a1 b1 (ap (λ g. head (tail (tail g))) p) i)
      (expression_inj a2 b2 (ap (λ g. head (tail (tail (tail g)))) p) i)
  expression_inj (index a0 a1 a2) (index b0 b1 b2) p =
      λ i. index (coded_ℕ.inj a0 b0 (ap (λ g. head (tail g)) p) i)
      (expression_inj a1 b1 (ap (λ g. head (tail (tail g))) p) i)
      (expression_inj a2 b2 (ap (λ g. head (tail (tail (tail g)))) p) i)
  expression_inj x y p = absurd (omega (arith, ap tag p))

  -- Lists of expressions that are stored alike are one.
  pub expressions_inj : (x y : Expressions) → expressions_code x ≡ expressions_code y → x ≡ y
  expressions_inj no_expression no_expression p = refl
  expressions_inj (expression a0 a1) (expression b0 b1) p =
      λ i. expression (expression_inj a0 b0 (ap (λ g. head (tail g)) p) i) (expressions_inj a1 b1 (ap (λ g. head (tail (tail g))) p) i)
  expressions_inj x y p = absurd (omega (arith, ap tag p))

  -- Statements of a transaction that are stored alike are one.
  pub query_inj : (x y : Query) → query_code x ≡ query_code y → x ≡ y
  query_inj (insert a0 a1 a2) (insert b0 b1 b2) p =
      λ i. insert (coded_ℕ.inj a0 b0 (ap (λ g. head (tail g)) p) i)
      (coded_name.inj a1 b1 (ap (λ g. head (tail (tail g))) p) i)
      (expressions_inj a2 b2 (ap (λ g. head (tail (tail (tail g)))) p) i)
  query_inj (select a0 a1 a2 a3) (select b0 b1 b2 b3) p =
      λ i. select (coded_ℕ.inj a0 b0 (ap (λ g. head (tail g)) p) i)
      (coded_names.inj a1 b1 (ap (λ g. head (tail (tail g))) p) i)
      (coded_name.inj a2 b2 (ap (λ g. head (tail (tail (tail g)))) p) i)
      (conditions_inj a3 b3 (ap (λ g. head (tail (tail (tail (tail g))))) p) i)
  query_inj (update a0 a1 a2 a3) (update b0 b1 b2 b3) p =
      λ i. update (coded_ℕ.inj a0 b0 (ap (λ g. head (tail g)) p) i)
      (coded_name.inj a1 b1 (ap (λ g. head (tail (tail g))) p) i)
      (assignments_inj a2 b2 (ap (λ g. head (tail (tail (tail g)))) p) i)
      (conditions_inj a3 b3 (ap (λ g. head (tail (tail (tail (tail g))))) p) i)
  query_inj (delete a0 a1 a2) (delete b0 b1 b2) p =
      λ i. delete (coded_ℕ.inj a0 b0 (ap (λ g. head (tail g)) p) i)
      (coded_name.inj a1 b1 (ap (λ g. head (tail (tail g))) p) i)
      (conditions_inj a2 b2 (ap (λ g. head (tail (tail (tail g)))) p) i)
  query_inj (expect a0 a1 a2 a3) (expect b0 b1 b2 b3) p =
      λ i. expect (coded_ℕ.inj a0 b0 (ap (λ g. head (tail g)) p) i)
      (expression_inj a1 b1 (ap (λ g. head (tail (tail g))) p) i)
      (coded_name.inj a2 b2 (ap (λ g. head (tail (tail (tail g)))) p) i)
      (conditions_inj a3 b3 (ap (λ g. head (tail (tail (tail (tail g))))) p) i)
  query_inj x y p = absurd (omega (arith, ap tag p))

  -- Lists of statements of a transaction that are stored alike are one.
  pub queries_inj : (x y : Queries) → queries_code x ≡ queries_code y → x ≡ y
  queries_inj no_query no_query p = refl
  queries_inj (query a0 a1) (query b0 b1) p =
      λ i. query (query_inj a0 b0 (ap (λ g. head (tail g)) p) i) (queries_inj a1 b1 (ap (λ g. head (tail (tail g))) p) i)
  queries_inj x y p = absurd (omega (arith, ap tag p))

  -- Lists of tests that are stored alike are one.
  pub conditions_inj : (x y : Conditions) → conditions_code x ≡ conditions_code y → x ≡ y
  conditions_inj no_condition no_condition p = refl
  conditions_inj (condition a0 a1 a2 a3) (condition b0 b1 b2 b3) p =
      λ i. condition (coded_name.inj a0 b0 (ap (λ g. head (tail g)) p) i)
      (comparison_row.the_row.coded.inj a1 b1 (ap (λ g. head (tail (tail g))) p) i)
      (expression_inj a2 b2 (ap (λ g. head (tail (tail (tail g)))) p) i)
      (conditions_inj a3 b3 (ap (λ g. head (tail (tail (tail (tail g))))) p) i)
  conditions_inj x y p = absurd (omega (arith, ap tag p))

  -- Lists of assignments that are stored alike are one.
  pub assignments_inj : (x y : Assignments) → assignments_code x ≡ assignments_code y → x ≡ y
  assignments_inj no_assignment no_assignment p = refl
  assignments_inj (assignment a0 a1 a2) (assignment b0 b1 b2) p =
      λ i. assignment (coded_name.inj a0 b0 (ap (λ g. head (tail g)) p) i)
      (expression_inj a1 b1 (ap (λ g. head (tail (tail g))) p) i)
      (assignments_inj a2 b2 (ap (λ g. head (tail (tail (tail g)))) p) i)
  assignments_inj x y p = absurd (omega (arith, ap tag p))

-- how an expression is stored
abbrev pub coded_expression : Coded Expression
coded_expression = record { code = expression_code; inj = expression_inj }

-- how a list of expressions is stored
abbrev pub coded_expressions : Coded Expressions
coded_expressions = record { code = expressions_code; inj = expressions_inj }

-- how a statement of a transaction is stored
abbrev pub coded_query : Coded Query
coded_query = record { code = query_code; inj = query_inj }

-- how the statements of a transaction are stored
abbrev pub coded_queries : Coded Queries
coded_queries = record { code = queries_code; inj = queries_inj }

-- how the tests of a where are stored
abbrev pub coded_conditions : Coded Conditions
coded_conditions = record { code = conditions_code; inj = conditions_inj }

-- how the assignments of an update are stored
abbrev pub coded_assignments : Coded Assignments
coded_assignments = record { code = assignments_code; inj = assignments_inj }

abbrev mutual
  -- a statement as it is stored: the number of its form, then its parts
  pub statement_code : Statement → Gv
  statement_code (let_ a0 a1 a2) = gcons (gnum 0) (gcons (coded_ℕ.code a0) (gcons (coded_name.code a1) (gcons (expression_code a2) gnil)))
  statement_code (set_ a0 a1 a2) = gcons (gnum 1) (gcons (coded_ℕ.code a0) (gcons (coded_name.code a1) (gcons (expression_code a2) gnil)))
  statement_code (if_ a0 a1 a2 a3) = gcons (gnum 2)
      (gcons (coded_ℕ.code a0) (gcons (expression_code a1) (gcons (statements_code a2) (gcons (else_code a3) gnil))))
  statement_code (while_ a0 a1 a2) = gcons (gnum 3) (gcons (coded_ℕ.code a0) (gcons (expression_code a1) (gcons (statements_code a2) gnil)))
  statement_code (for_ a0 a1 a2 a3) = gcons (gnum 4) (gcons (coded_ℕ.code a0) (gcons (coded_name.code a1) (gcons (expression_code a2) (gcons (statements_code a3) gnil))))
  statement_code (echo a0 a1) = gcons (gnum 5) (gcons (coded_ℕ.code a0) (gcons (expression_code a1) gnil))
  statement_code (status a0 a1) = gcons (gnum 6) (gcons (coded_ℕ.code a0) (gcons (expression_code a1) gnil))
  statement_code (return a0 a1) = gcons (gnum 7) (gcons (coded_ℕ.code a0) (gcons (expression_code a1) gnil))
  statement_code (do_ a0 a1) = gcons (gnum 8) (gcons (coded_ℕ.code a0) (gcons (expression_code a1) gnil))

  -- an else as it is stored
  pub else_code : Else → Gv
  else_code no_else = gcons (gnum 0) gnil
  else_code (else_ a0) = gcons (gnum 1) (gcons (statements_code a0) gnil)

  -- the statements of a block as they are stored
  pub statements_code : Statements → Gv
  statements_code no_statement = gcons (gnum 0) gnil
  statements_code (statement a0 a1) = gcons (gnum 1) (gcons (statement_code a0) (gcons (statements_code a1) gnil))

mutual
  -- Statements that are stored alike are one.
  pub statement_inj : (x y : Statement) → statement_code x ≡ statement_code y → x ≡ y
  statement_inj (let_ a0 a1 a2) (let_ b0 b1 b2) p =
      λ i. let_ (coded_ℕ.inj a0 b0 (ap (λ g. head (tail g)) p) i)
      (coded_name.inj a1 b1 (ap (λ g. head (tail (tail g))) p) i)
      (expression_inj a2 b2 (ap (λ g. head (tail (tail (tail g)))) p) i)
  statement_inj (set_ a0 a1 a2) (set_ b0 b1 b2) p =
      λ i. set_ (coded_ℕ.inj a0 b0 (ap (λ g. head (tail g)) p) i)
      (coded_name.inj a1 b1 (ap (λ g. head (tail (tail g))) p) i)
      (expression_inj a2 b2 (ap (λ g. head (tail (tail (tail g)))) p) i)
  statement_inj (if_ a0 a1 a2 a3) (if_ b0 b1 b2 b3) p =
      λ i. if_ (coded_ℕ.inj a0 b0 (ap (λ g. head (tail g)) p) i)
      (expression_inj a1 b1 (ap (λ g. head (tail (tail g))) p) i)
      (statements_inj a2 b2 (ap (λ g. head (tail (tail (tail g)))) p) i)
      (else_inj a3 b3 (ap (λ g. head (tail (tail (tail (tail g))))) p) i)
  statement_inj (while_ a0 a1 a2) (while_ b0 b1 b2) p =
      λ i. while_ (coded_ℕ.inj a0 b0 (ap (λ g. head (tail g)) p) i)
      (expression_inj a1 b1 (ap (λ g. head (tail (tail g))) p) i)
      (statements_inj a2 b2 (ap (λ g. head (tail (tail (tail g)))) p) i)
  statement_inj (for_ a0 a1 a2 a3) (for_ b0 b1 b2 b3) p =
      λ i. for_ (coded_ℕ.inj a0 b0 (ap (λ g. head (tail g)) p) i)
      (coded_name.inj a1 b1 (ap (λ g. head (tail (tail g))) p) i)
      (expression_inj a2 b2 (ap (λ g. head (tail (tail (tail g)))) p) i)
      (statements_inj a3 b3 (ap (λ g. head (tail (tail (tail (tail g))))) p) i)
  statement_inj (echo a0 a1) (echo b0 b1) p =
      λ i. echo (coded_ℕ.inj a0 b0 (ap (λ g. head (tail g)) p) i) (expression_inj a1 b1 (ap (λ g. head (tail (tail g))) p) i)
  statement_inj (status a0 a1) (status b0 b1) p =
      λ i. status (coded_ℕ.inj a0 b0 (ap (λ g. head (tail g)) p) i) (expression_inj a1 b1 (ap (λ g. head (tail (tail g))) p) i)
  statement_inj (return a0 a1) (return b0 b1) p =
      λ i. return (coded_ℕ.inj a0 b0 (ap (λ g. head (tail g)) p) i) (expression_inj a1 b1 (ap (λ g. head (tail (tail g))) p) i)
  statement_inj (do_ a0 a1) (do_ b0 b1) p =
      λ i. do_ (coded_ℕ.inj a0 b0 (ap (λ g. head (tail g)) p) i) (expression_inj a1 b1 (ap (λ g. head (tail (tail g))) p) i)
  statement_inj x y p = absurd (omega (arith, ap tag p))

  -- Elses that are stored alike are one.
  pub else_inj : (x y : Else) → else_code x ≡ else_code y → x ≡ y
  else_inj no_else no_else p = refl
  else_inj (else_ a0) (else_ b0) p =
      λ i. else_ (statements_inj a0 b0 (ap (λ g. head (tail g)) p) i)
  else_inj x y p = absurd (omega (arith, ap tag p))

  -- Blocks that are stored alike are one.
  pub statements_inj : (x y : Statements) → statements_code x ≡ statements_code y → x ≡ y
  statements_inj no_statement no_statement p = refl
  statements_inj (statement a0 a1) (statement b0 b1) p =
      λ i. statement (statement_inj a0 b0 (ap (λ g. head (tail g)) p) i) (statements_inj a1 b1 (ap (λ g. head (tail (tail g))) p) i)
  statements_inj x y p = absurd (omega (arith, ap tag p))

-- how a statement is stored
abbrev pub coded_statement : Coded Statement
coded_statement = record { code = statement_code; inj = statement_inj }

-- how an else is stored
abbrev pub coded_else : Coded Else
coded_else = record { code = else_code; inj = else_inj }

-- how the statements of a block are stored
abbrev pub coded_statements : Coded Statements
coded_statements = record { code = statements_code; inj = statements_inj }
