-- The instructions of a program.
use Rattle.std.specs.Prelude.{ℕ, suc, ◌+◌, ◌-◌, Bool, true, false, if◌then◌else◌, List, [], ◌∷◌, ◌++◌, length, map, Option, Some, None}
use Rattle.std.specs.Str.{bytes_eq}
use Rattle.script_tree.specs.Builtins.{takes_store}
use Rattle.script_tree.specs.Datum as v
use Rattle.script_tree.specs.Declarations.{Callee, own, built, unknown, callee_in, NumberedTable, table_in, column_in}
use Rattle.script_tree.specs.Programs.{Program}
use Rattle.script_tree.specs.Syntax.{Expression, number, text, truth, null, bracket, variable, call, list, transact, unary, binary, and_, or_, index, Expressions, no_expression, expression, Query, insert, select, update, delete, expect, Queries, no_query, query, Conditions, no_condition, condition, Assignments, no_assignment, assignment, Statement, let_, set_, if_, while_, for_, echo, status, return, do_, Else, no_else, else_, Statements, no_statement, statement}
use Rattle.script_tree.specs.SyntaxLists.{statements_of}
use Rattle.script_tree.specs.declared.syntax.builtin.Builtin.{Builtin}
use Rattle.script_tree.specs.declared.syntax.declaration.Declaration.{Declaration}
use Rattle.script_tree.specs.declared.syntax.declaration.Declaration.TheVariants.{Store, Table, Function, Page}
use Rattle.script_tree.specs.declared.syntax.name.Name.{Name}
use Rattle.script_meaning.specs.Evaluate.{names_store, store_name}
use Rattle.script_code.specs.declared.instruction.Instruction.{Instruction}
use Rattle.script_code.specs.declared.instruction.Instruction.TheVariants.{Push, Load, Unary, Binary, Index, List as Listed, CallBuiltin, CallStore, Call, CallUnknown, Transact, And, Or, Branch, Again, Jump, Each, Turn, Leave, Declare, Assign, Echo, Status, Discard, Return, End, Halt}
use Rattle.script_code.specs.declared.instruction.Shape.{Shape}
use Rattle.script_code.specs.declared.instruction.Shape.TheVariants as shape
use Rattle.script_code.specs.declared.instruction.TestShape.{TestShape}

-- code: instructions one after another
abbrev pub Instructions : Type 0
Instructions = List Instruction

-- the names in scope, the newest last
abbrev pub Names : Type 0
Names = List (List ℕ)

-- the slot of a name; where it isn't in scope, the next free one
abbrev pub slot_of : Names → List ℕ → ℕ
slot_of [] x = 0
slot_of (n ∷ ns) x = if bytes_eq x n then 0 else suc (slot_of ns x)

-- the number of a function; functions are numbered from n
abbrev pub function_from : ℕ → List ℕ → List Declaration → ℕ
function_from n f [] = n
function_from n f (Store at name ∷ ds) = function_from n f ds
function_from n f (Table at name columns ∷ ds) = function_from n f ds
function_from n f (Function at name parameters body ∷ ds) = if bytes_eq f name.text then n else function_from (n + 1) f ds
function_from n f (Page at path body ∷ ds) = function_from n f ds

-- the number of a function of the program
abbrev pub function_number : Program → List ℕ → ℕ
function_number program f = function_from 0 f program.declarations

-- how many expressions there are
abbrev pub how_many : Expressions → ℕ
how_many no_expression = 0
how_many (expression e es) = suc (how_many es)

-- ---- jumps

-- a choice: where its test holds the first code and a jump past the second, else the second
abbrev pub choice_code : (test first second : Instructions) → Instructions
choice_code test a b = test ++ (Branch (length a + 1) ∷ (a ++ (Jump (length b) ∷ b)))

-- a loop: a jump to the test, the body, the test, and back to the body
abbrev pub loop_code : (test body : Instructions) → Instructions
loop_code test body = Jump (length body) ∷ (body ++ (test ++ Again (length body + length test) ∷ []))

-- a loop over a list: the list, the body, and back to the body with the next member
abbrev pub each_code : (whole body : Instructions) → Instructions
each_code whole body = whole ++ (Each (length body) ∷ (body ++ Turn (length body) ∷ []))

-- ---- expressions

-- the values of arguments are there: the call itself
abbrev pub builtin_code : Bool → Builtin → List ℕ → ℕ → Instruction
builtin_code true b store n = CallStore b store (n - 1)
builtin_code false b store n = CallBuiltin b n

-- the instruction of a call, by what its name calls
abbrev pub call_code : Program → List ℕ → List ℕ → ℕ → Callee → Instruction
call_code program f store n (own g) = Call (function_number program f) n
call_code program f store n (built b) = builtin_code (takes_store b) b store n
call_code program f store n unknown = CallUnknown n

-- the tests of a `where` without their values
abbrev pub tests_in : NumberedTable → Conditions → List TestShape
tests_in t no_condition = []
tests_in t (condition x comparison e cs) = record { column = column_in t x; comparison = comparison } ∷ tests_in t cs

-- the columns that an `update` sets
abbrev pub changes_in : NumberedTable → Assignments → List ℕ
changes_in t no_assignment = []
changes_in t (assignment x e as') = column_in t x ∷ changes_in t as'

-- a statement of a transaction without its values
abbrev pub shape_of : Program → Query → Shape
shape_of program (insert at t es) = shape.Insert (table_in program t).number (how_many es)
shape_of program (select at columns t cs) =
    let table = table_in program t in
    shape.Select table.number (map (column_in table) columns) (tests_in table cs)
shape_of program (update at t as' cs) =
    let table = table_in program t in
    shape.Update table.number (changes_in table as') (tests_in table cs)
shape_of program (delete at t cs) =
    let table = table_in program t in
    shape.Delete table.number (tests_in table cs)
shape_of program (expect at e t cs) =
    let table = table_in program t in
    shape.Expect table.number (tests_in table cs)

-- the statements of a transaction without their values
abbrev pub shapes_of : Program → Queries → List Shape
shapes_of program no_query = []
shapes_of program (query q qs) = shape_of program q ∷ shapes_of program qs

abbrev mutual
  -- the code of an expression, which puts its value on the stack
  pub expression_code : Program → Names → Expression → Instructions
  expression_code program ns (number at n) = Push (v.number n) ∷ []
  expression_code program ns (text at bytes) = Push (v.text bytes) ∷ []
  expression_code program ns (truth at b) = Push (v.bool b) ∷ []
  expression_code program ns (null at) = Push v.null ∷ []
  expression_code program ns (bracket at e) = expression_code program ns e
  expression_code program ns (variable at x) = Load (slot_of ns x) ∷ []
  expression_code program ns (unary at op e) = expression_code program ns e ++ Unary op ∷ []
  expression_code program ns (binary at op a b) = expression_code program ns a ++ (expression_code program ns b ++ Binary op ∷ [])
  expression_code program ns (and_ at a b) = expression_code program ns a ++ (And (length (expression_code program ns b)) ∷ expression_code program ns b)
  expression_code program ns (or_ at a b) = expression_code program ns a ++ (Or (length (expression_code program ns b)) ∷ expression_code program ns b)
  expression_code program ns (index at a b) = expression_code program ns a ++ (expression_code program ns b ++ Index ∷ [])
  expression_code program ns (list at es) = expressions_code program ns es ++ Listed (how_many es) ∷ []
  expression_code program ns (call at f es) =
      arguments_code program ns (names_store (callee_in program f)) es
      ++ call_code program f (store_name es) (how_many es) (callee_in program f) ∷ []
  expression_code program ns (transact at qs) = queries_code program ns qs ++ Transact (shapes_of program qs) ∷ []

  -- the code of expressions, one after another
  pub expressions_code : Program → Names → Expressions → Instructions
  expressions_code program ns no_expression = []
  expressions_code program ns (expression e es) = expression_code program ns e ++ expressions_code program ns es

  -- a store's name isn't evaluated
  pub arguments_code : Program → Names → (store_first : Bool) → Expressions → Instructions
  arguments_code program ns store_first no_expression = []
  arguments_code program ns true (expression e es) = expressions_code program ns es
  arguments_code program ns false (expression e es) = expression_code program ns e ++ expressions_code program ns es

  -- the code of the values that a statement of a transaction takes
  pub query_code : Program → Names → Query → Instructions
  query_code program ns (insert at t es) = expressions_code program ns es
  query_code program ns (select at columns t cs) = conditions_code program ns cs
  query_code program ns (update at t as' cs) = assignments_code program ns as' ++ conditions_code program ns cs
  query_code program ns (delete at t cs) = conditions_code program ns cs
  query_code program ns (expect at e t cs) = expression_code program ns e ++ conditions_code program ns cs

  -- the code of the values that all of them take
  pub queries_code : Program → Names → Queries → Instructions
  queries_code program ns no_query = []
  queries_code program ns (query q qs) = query_code program ns q ++ queries_code program ns qs

  -- the code of the values of conditions
  pub conditions_code : Program → Names → Conditions → Instructions
  conditions_code program ns no_condition = []
  conditions_code program ns (condition x comparison e cs) = expression_code program ns e ++ conditions_code program ns cs

  -- the code of the values of assignments
  pub assignments_code : Program → Names → Assignments → Instructions
  assignments_code program ns no_assignment = []
  assignments_code program ns (assignment x e as') = expression_code program ns e ++ assignments_code program ns as'

-- ---- statements

-- the names in scope after a statement
abbrev pub names_after : Names → Statement → Names
names_after ns (let_ at x e) = ns ++ x.text ∷ []
names_after ns (set_ at x e) = ns
names_after ns (if_ at e body other) = ns
names_after ns (while_ at e body) = ns
names_after ns (for_ at x e body) = ns
names_after ns (echo at e) = ns
names_after ns (status at e) = ns
names_after ns (return at e) = ns
names_after ns (do_ at e) = ns

-- a block within others: what it declares ends with it
abbrev pub scoped_code : Names → Instructions → Instructions
scoped_code ns block = block ++ Leave (length ns) ∷ []

abbrev mutual
  -- the code of a statement
  pub statement_code : Program → Names → Statement → Instructions
  statement_code program ns (let_ at x e) = expression_code program ns e ++ Declare ∷ []
  statement_code program ns (set_ at x e) = expression_code program ns e ++ Assign (slot_of ns x.text) ∷ []
  statement_code program ns (if_ at e body other) =
      choice_code (expression_code program ns e) (scoped_code ns (block_code program ns body)) (scoped_code ns (else_code program ns other))
  statement_code program ns (while_ at e body) = loop_code (expression_code program ns e) (scoped_code ns (block_code program ns body))
  statement_code program ns (for_ at x e body) =
      each_code (expression_code program ns e) (scoped_code ns (block_code program (ns ++ x.text ∷ []) body))
  statement_code program ns (echo at e) = expression_code program ns e ++ Echo ∷ []
  statement_code program ns (status at e) = expression_code program ns e ++ Status ∷ []
  statement_code program ns (return at e) = expression_code program ns e ++ Return ∷ []
  statement_code program ns (do_ at e) = expression_code program ns e ++ Discard ∷ []

  -- the code of an `else`, or of none
  pub else_code : Program → Names → Else → Instructions
  else_code program ns no_else = []
  else_code program ns (else_ ss) = block_code program ns ss

  -- the code of statements, one after another
  pub block_code : Program → Names → Statements → Instructions
  block_code program ns no_statement = []
  block_code program ns (statement s ss) = statement_code program ns s ++ block_code program (names_after ns s) ss

-- ---- declarations

-- the texts of names
abbrev pub texts : List Name → Names
texts [] = []
texts (x ∷ xs) = x.text ∷ texts xs

-- the code of a declaration: stores and tables have none
abbrev pub declaration_code : Program → Declaration → Instructions
declaration_code program (Store at name) = []
declaration_code program (Table at name columns) = []
declaration_code program (Function at name parameters body) = block_code program (texts parameters) (statements_of body) ++ End ∷ []
declaration_code program (Page at path body) = block_code program [] (statements_of body) ++ Halt ∷ []

-- the code of declarations, one after another
abbrev pub declarations_code : Program → List Declaration → Instructions
declarations_code program [] = []
declarations_code program (d ∷ ds) = declaration_code program d ++ declarations_code program ds

-- where the code of a page begins, and the page's number
pub record Entry : Type 0 where
  pub number : ℕ
  pub place : ℕ

-- the entry of a path, where that of the first declaration begins at a place, and pages are numbered from n
abbrev pub entry_from : Program → (n place : ℕ) → List ℕ → List Declaration → Option Entry
entry_from program n place path [] = None
entry_from program n place path (Store at name ∷ ds) = entry_from program n place path ds
entry_from program n place path (Table at name columns ∷ ds) = entry_from program n place path ds
entry_from program n place path (Function at name parameters body ∷ ds) =
    entry_from program n (place + length (declaration_code program (Function at name parameters body))) path ds
entry_from program n place path (Page at name body ∷ ds) =
    if bytes_eq path name.text then Some (record { number = n; place = place })
    else entry_from program (n + 1) (place + length (declaration_code program (Page at name body))) path ds

-- where the code of each function begins, in order, where that of the first declaration begins at a place
abbrev pub places_from : Program → ℕ → List Declaration → List ℕ
places_from program place [] = []
places_from program place (Store at name ∷ ds) = places_from program place ds
places_from program place (Table at name columns ∷ ds) = places_from program place ds
places_from program place (Function at name parameters body ∷ ds) =
    place ∷ places_from program (place + length (declaration_code program (Function at name parameters body))) ds
places_from program place (Page at path body ∷ ds) = places_from program (place + length (declaration_code program (Page at path body))) ds
