-- How operators group: docs/language.md, "Grammar".
use Rattle.std.specs.Prelude.{◌≡◌, ◌≢◌, ℕ, suc, ◌<◌, ◌≤◌, ◌==◌, if◌then◌else◌, List, [], ◌∷◌}
use Rattle.script_tree.specs.Syntax.{Expression, number, text, truth, null, bracket, variable, call, list, transact, unary, binary, and_, or_, index, Expressions, no_expression, expression, Query, insert, select, update, delete, expect, Queries, no_query, query, Conditions, no_condition, condition, Assignments, no_assignment, assignment, Statement, let_, set_, if_, while_, for_, echo, status, return, do_, Else, no_else, else_, Statements, no_statement, statement}
use Rattle.script_tree.specs.SyntaxPlaces.{place_of}
use Rattle.script_tree.specs.declared.limits.TheConstants.{MOST_REPEATS}
use Rattle.script_tree.specs.declared.syntax.operator.BinaryOperator.{BinaryOperator}
use Rattle.script_tree.specs.declared.syntax.operator.BinaryOperator.TheVariants as two
use Rattle.script_tree.specs.declared.syntax.declaration.Declaration.{Declaration}
use Rattle.script_tree.specs.declared.syntax.declaration.Declaration.TheVariants as declared

-- the levels, from the tightest: 0 indexing, 1 prefixes, 2 to 4 operators, 5 and, 6 or
abbrev pub operator_level : BinaryOperator → ℕ
operator_level (two.Compare c) = 4
operator_level two.Plus = 3
operator_level two.Minus = 3
operator_level two.Times = 2
operator_level two.Quotient = 2
operator_level two.Remainder = 2

-- the level of the operator that is applied last; 0 of an expression without one
abbrev pub level : Expression → ℕ
level (number at n) = 0
level (text at bytes) = 0
level (truth at b) = 0
level (null at) = 0
level (bracket at e) = 0
level (variable at x) = 0
level (call at f es) = 0
level (list at es) = 0
level (transact at qs) = 0
level (unary at operator e) = 1
level (binary at operator left right) = operator_level operator
level (and_ at left right) = 5
level (or_ at left right) = 6
level (index at whole place) = 0

-- this many, where the levels are the same
abbrev pub if_same : ℕ → ℕ → ℕ → ℕ
if_same l m n = if l == m then n else 0

-- how many operators of its level stand in the row that it is
abbrev pub row : Expression → ℕ
row (number at n) = 0
row (text at bytes) = 0
row (truth at b) = 0
row (null at) = 0
row (bracket at e) = 0
row (variable at x) = 0
row (call at f es) = 0
row (list at es) = 0
row (transact at qs) = 0
row (unary at operator e) = suc (if_same (level e) 1 (row e))
row (binary at operator left right) = suc (if_same (level left) (operator_level operator) (row left))
row (and_ at left right) = suc (if_same (level left) 5 (row left))
row (or_ at left right) = suc (if_same (level left) 6 (row left))
row (index at whole place) = suc (if_same (level whole) 0 (row whole))

-- how many operators of this level the row has
abbrev pub repeats : ℕ → Expression → ℕ
repeats l e = if_same (level e) l (row e)

-- one comparison at most, of all others 64
abbrev pub most_repeats : ℕ → ℕ
most_repeats l = if l == 4 then 1 else MOST_REPEATS

-- Operators of one level group to the left, and the row isn't too long.
pub record IsJoined (l at : ℕ) (left right : Expression) : Type 0 where
  pub place : at ≡ place_of left
  pub left_level : level left ≤ l
  pub right_level : level right < l
  pub few : repeats l left < most_repeats l

-- an expression that may stand behind a prefix: of level 1 at most, and without too many prefixes
pub record IsPrefixed (e : Expression) : Type 0 where
  pub level_is : level e ≤ 1
  pub few : repeats 1 e < most_repeats 1

-- an expression that may be indexed at this place: of level 0, and without too many indexes
pub record IsIndexed (at : ℕ) (whole : Expression) : Type 0 where
  pub place : at ≡ place_of whole
  pub level_is : level whole ≤ 0
  pub few : repeats 0 whole < most_repeats 0

abbrev mutual
  -- Each operator in an expression has operands that may stand there without brackets, and no transaction is empty.
  pub IsGrouped : Expression → Type 0
  IsGrouped (number at n) = Unit {0}
  IsGrouped (text at bytes) = Unit {0}
  IsGrouped (truth at b) = Unit {0}
  IsGrouped (null at) = Unit {0}
  IsGrouped (bracket at e) = IsGrouped e
  IsGrouped (variable at x) = Unit {0}
  IsGrouped (call at f es) = AreGrouped es
  IsGrouped (list at es) = AreGrouped es
  IsGrouped (transact at qs) = (qs ≢ no_query) × AreGroupedQueries qs
  IsGrouped (unary at operator e) = IsPrefixed e × IsGrouped e
  IsGrouped (binary at operator left right) = IsJoined (operator_level operator) at left right × IsGrouped left × IsGrouped right
  IsGrouped (and_ at left right) = IsJoined 5 at left right × IsGrouped left × IsGrouped right
  IsGrouped (or_ at left right) = IsJoined 6 at left right × IsGrouped left × IsGrouped right
  IsGrouped (index at whole place) = IsIndexed at whole × IsGrouped whole × IsGrouped place

  -- the same of each of these
  pub AreGrouped : Expressions → Type 0
  AreGrouped no_expression = Unit {0}
  AreGrouped (expression e es) = IsGrouped e × AreGrouped es

  -- a row, columns and assignments are never none
  pub IsGroupedQuery : Query → Type 0
  IsGroupedQuery (insert at t es) = (es ≢ no_expression) × AreGrouped es
  IsGroupedQuery (select at columns t cs) = (columns ≢ []) × AreGroupedTests cs
  IsGroupedQuery (update at t sets cs) = (sets ≢ no_assignment) × AreGroupedSets sets × AreGroupedTests cs
  IsGroupedQuery (delete at t cs) = AreGroupedTests cs
  IsGroupedQuery (expect at e t cs) = IsGrouped e × AreGroupedTests cs

  -- the same of each statement of a transaction
  pub AreGroupedQueries : Queries → Type 0
  AreGroupedQueries no_query = Unit {0}
  AreGroupedQueries (query q qs) = IsGroupedQuery q × AreGroupedQueries qs

  -- the value of a test is a sum
  pub AreGroupedTests : Conditions → Type 0
  AreGroupedTests no_condition = Unit {0}
  AreGroupedTests (condition x c e cs) = (level e ≤ 3) × IsGrouped e × AreGroupedTests cs

  -- the same of each value that is assigned
  pub AreGroupedSets : Assignments → Type 0
  AreGroupedSets no_assignment = Unit {0}
  AreGroupedSets (assignment x e sets) = IsGrouped e × AreGroupedSets sets

abbrev mutual
  -- the same of the expressions and the blocks of a statement
  pub IsGroupedStatement : Statement → Type 0
  IsGroupedStatement (let_ at x e) = IsGrouped e
  IsGroupedStatement (set_ at x e) = IsGrouped e
  IsGroupedStatement (if_ at e body other) = IsGrouped e × AreGroupedStatements body × IsGroupedElse other
  IsGroupedStatement (while_ at e body) = IsGrouped e × AreGroupedStatements body
  IsGroupedStatement (for_ at x e body) = IsGrouped e × AreGroupedStatements body
  IsGroupedStatement (echo at e) = IsGrouped e
  IsGroupedStatement (status at e) = IsGrouped e
  IsGroupedStatement (return at e) = IsGrouped e
  IsGroupedStatement (do_ at e) = IsGrouped e

  -- the same of an else, where there is one
  pub IsGroupedElse : Else → Type 0
  IsGroupedElse no_else = Unit {0}
  IsGroupedElse (else_ body) = AreGroupedStatements body

  -- the same of each statement of a block
  pub AreGroupedStatements : Statements → Type 0
  AreGroupedStatements no_statement = Unit {0}
  AreGroupedStatements (statement s ss) = IsGroupedStatement s × AreGroupedStatements ss

-- the same of each statement of a function or a page
abbrev pub IsGroupedBlock : List Statement → Type 0
IsGroupedBlock [] = Unit {0}
IsGroupedBlock (s ∷ ss) = IsGroupedStatement s × IsGroupedBlock ss

-- a table has columns
abbrev pub IsGroupedDeclaration : Declaration → Type 0
IsGroupedDeclaration (declared.Store at name) = Unit {0}
IsGroupedDeclaration (declared.Table at name columns) = columns ≢ []
IsGroupedDeclaration (declared.Function at name parameters body) = IsGroupedBlock body
IsGroupedDeclaration (declared.Page at path body) = IsGroupedBlock body

-- the same of all declarations
abbrev pub AreGroupedDeclarations : List Declaration → Type 0
AreGroupedDeclarations [] = Unit {0}
AreGroupedDeclarations (d ∷ ds) = IsGroupedDeclaration d × AreGroupedDeclarations ds
