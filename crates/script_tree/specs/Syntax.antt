-- The syntax tree of a program: each node with the place of its first byte.
use Rattle.std.specs.Prelude.{ℕ, ℤ, List, Bool}
use Rattle.script_tree.specs.declared.comparison.Comparison.{Comparison}
use Rattle.script_tree.specs.declared.syntax.operator.UnaryOperator.{UnaryOperator}
use Rattle.script_tree.specs.declared.syntax.operator.BinaryOperator.{BinaryOperator}
use Rattle.script_tree.specs.declared.syntax.name.Name.{Name}

mutual
  -- an expression, by its form
  pub data Expression : Type 0 where
    number : (at : ℕ) → ℤ → Expression
    text : (at : ℕ) → (bytes : List ℕ) → Expression
    truth : (at : ℕ) → Bool → Expression
    null : (at : ℕ) → Expression
    bracket : (at : ℕ) → Expression → Expression
    variable : (at : ℕ) → (name : List ℕ) → Expression
    call : (at : ℕ) → (name : List ℕ) → Expressions → Expression
    list : (at : ℕ) → Expressions → Expression
    transact : (at : ℕ) → Queries → Expression
    unary : (at : ℕ) → UnaryOperator → Expression → Expression
    binary : (at : ℕ) → BinaryOperator → Expression → Expression → Expression
    and_ : (at : ℕ) → Expression → Expression → Expression
    or_ : (at : ℕ) → Expression → Expression → Expression
    index : (at : ℕ) → Expression → Expression → Expression

  -- expressions in a row: arguments of a call, members of a list, values of an insert
  pub data Expressions : Type 0 where
    no_expression : Expressions
    expression : Expression → Expressions → Expressions

  -- a statement of a transaction
  pub data Query : Type 0 where
    insert : (at : ℕ) → (table : Name) → Expressions → Query
    select : (at : ℕ) → (columns : List Name) → (table : Name) → Conditions → Query
    update : (at : ℕ) → (table : Name) → Assignments → Conditions → Query
    delete : (at : ℕ) → (table : Name) → Conditions → Query
    expect : (at : ℕ) → Expression → (table : Name) → Conditions → Query

  -- the statements of a transaction, in order
  pub data Queries : Type 0 where
    no_query : Queries
    query : Query → Queries → Queries

  -- the tests of a where
  pub data Conditions : Type 0 where
    no_condition : Conditions
    condition : (column : Name) → Comparison → Expression → Conditions → Conditions

  -- what an update sets
  pub data Assignments : Type 0 where
    no_assignment : Assignments
    assignment : (column : Name) → Expression → Assignments → Assignments

-- a test of a where, and an assignment of an update
pub record Condition : Type 0 where
  pub column : Name
  pub comparison : Comparison
  pub value : Expression

-- an assignment of an update
pub record Assignment : Type 0 where
  pub column : Name
  pub value : Expression

mutual
  -- a statement, by its form
  pub data Statement : Type 0 where
    let_ : (at : ℕ) → Name → Expression → Statement
    set_ : (at : ℕ) → Name → Expression → Statement
    if_ : (at : ℕ) → Expression → Statements → Else → Statement
    while_ : (at : ℕ) → Expression → Statements → Statement
    for_ : (at : ℕ) → Name → Expression → Statements → Statement
    echo : (at : ℕ) → Expression → Statement
    status : (at : ℕ) → Expression → Statement
    return : (at : ℕ) → Expression → Statement
    do_ : (at : ℕ) → Expression → Statement

  -- the else of an if, where it has one
  pub data Else : Type 0 where
    no_else : Else
    else_ : Statements → Else

  -- the statements of a block, in order
  pub data Statements : Type 0 where
    no_statement : Statements
    statement : Statement → Statements → Statements
