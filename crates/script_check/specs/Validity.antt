-- When a tree is a program: docs/language.md, "Check" and "Scope". Each part of the tree has these faults, in the order of the text.
use Rattle.std.specs.Prelude.{◌≡◌, ℕ, suc, ◌==◌, nat_le, ◌||◌, List, [], ◌∷◌, ◌++◌, length, Bool, true, false, not, Option, Some, None, is_some, option_map, if◌then◌else◌}
use Rattle.std.specs.Str.{bytes_eq}
use Rattle.script_tree.specs.Builtins.{builtin_of, takes_store, arity_of}
use Rattle.script_tree.specs.Declarations.{table_from, DeclaredFunction, function_from, function_in, page_from}
use Rattle.script_tree.specs.Fit.{declares_store}
use Rattle.script_tree.specs.Programs.{Program}
use Rattle.script_tree.specs.SyntaxLists.{statements_of}
use Rattle.script_tree.specs.SyntaxPlaces.{place_of}
use Rattle.script_tree.specs.Syntax.{Expression, number, text, truth, null, bracket, variable, call, list, transact, unary, binary, and_, or_, index, Expressions, no_expression, expression, Query, insert, select, update, delete, expect, Queries, no_query, query, Conditions, no_condition, condition, Assignments, no_assignment, assignment, Statement, let_, set_, if_, while_, for_, echo, status, return, do_, Else, no_else, else_, Statements, no_statement, statement}
use Rattle.script_tree.specs.declared.limits.TheConstants.{MOST_LITERAL_BYTES}
use Rattle.script_tree.specs.declared.syntax.builtin.Builtin.{Builtin}
use Rattle.script_tree.specs.declared.syntax.name.Name.{Name}
use Rattle.script_tree.specs.declared.syntax.tree.Version.{Version}
use Rattle.script_tree.specs.declared.syntax.declaration.Declaration.{Declaration}
use Rattle.script_tree.specs.declared.syntax.declaration.Declaration.TheVariants.{Store, Table, Function, Page}
use Rattle.script_check.specs.declared.fault.CheckFault.{CheckFault}
use Rattle.script_check.specs.declared.fault.CheckFaultKind.{CheckFaultKind}
use Rattle.script_check.specs.declared.fault.CheckFaultKind.TheVariants.{Undeclared, DeclaredTwice, WrongCount, Unknown, KeyWritten, PageTwice}

-- one fault
abbrev pub fault : ℕ → CheckFaultKind → List CheckFault
fault at kind = record { at = at; kind = kind } ∷ []

-- this fault, but where that holds
abbrev pub fault_unless : Bool → ℕ → CheckFaultKind → List CheckFault
fault_unless true at kind = []
fault_unless false at kind = fault at kind

-- whether the name is one of these
abbrev pub has : List (List ℕ) → List ℕ → Bool
has [] x = false
has (y ∷ ys) x = bytes_eq x y || has ys x

-- the texts of the names
abbrev pub texts : List Name → List (List ℕ)
texts [] = []
texts (x ∷ xs) = x.text ∷ texts xs

-- a name that is declared where these are known
abbrev pub declared_where : List (List ℕ) → Name → List CheckFault
declared_where known x = fault_unless (not (has known x.text)) x.at DeclaredTwice

-- these names and this one, none of them twice
abbrev pub with_name : List (List ℕ) → List ℕ → List (List ℕ)
with_name known x = if has known x then known else x ∷ known

-- these names and those, none of them twice
abbrev pub with_names : List (List ℕ) → List Name → List (List ℕ)
with_names known [] = known
with_names known (x ∷ xs) = with_names (with_name known x.text) xs

-- names that are declared one after another
abbrev pub declared_in_turn : List (List ℕ) → List Name → List CheckFault
declared_in_turn known [] = []
declared_in_turn known (x ∷ xs) = declared_where known x ++ declared_in_turn (with_name known x.text) xs

-- ---- expressions, where the program's declarations are these and these variables are known

-- how many expressions there are
abbrev pub how_many : Expressions → ℕ
how_many no_expression = 0
how_many (expression e es) = suc (how_many es)

-- a call of so many arguments: of a built-in function, else of a function of the program
abbrev pub call_faults : ℕ → ℕ → Option Builtin → Option DeclaredFunction → List CheckFault
call_faults at count (Some b) own = fault_unless (count == arity_of b) at WrongCount
call_faults at count None (Some f) = fault_unless (count == length f.parameters) at WrongCount
call_faults at count None None = fault at Undeclared

-- the same, where the function has this name
abbrev pub called_faults : Program → (at count : ℕ) → Option Builtin → List ℕ → List CheckFault
called_faults program at count builtin f = call_faults at count builtin (function_in program f)

-- whether the first argument is to be the bare name of a store
abbrev pub names_store : Option Builtin → Bool
names_store None = false
names_store (Some b) = takes_store b

-- the bare name of a store
abbrev pub store_faults : Program → Expression → List CheckFault
store_faults program (variable at x) = fault_unless (declares_store program.declarations x) at Unknown
store_faults program e = fault (place_of e) Unknown

-- the columns of the table of a name, where it is declared
abbrev pub columns_in : List Declaration → List ℕ → Option (List Name)
columns_in ds t = option_map (λ table. table.columns) (table_from 0 t ds)

-- whether it is the name of the first column, which is the key
abbrev pub is_key : List Name → List ℕ → Bool
is_key [] x = false
is_key (key ∷ columns) x = bytes_eq x key.text

-- the table's name
abbrev pub table_faults : Option (List Name) → Name → List CheckFault
table_faults columns t = fault_unless (is_some columns) t.at Unknown

-- a row of so many values; where the table is unknown, that is its only fault
abbrev pub row_faults : Option (List Name) → Name → ℕ → List CheckFault
row_faults None t count = []
row_faults (Some columns) t count = fault_unless (count == length columns) t.at WrongCount

-- a column that is named; where the table is unknown, that is no fault
abbrev pub column_faults : Option (List Name) → Name → List CheckFault
column_faults None x = []
column_faults (Some columns) x = fault_unless (has (texts columns) x.text) x.at Unknown

-- columns that are named
abbrev pub columns_faults : Option (List Name) → List Name → List CheckFault
columns_faults columns [] = []
columns_faults columns (x ∷ xs) = column_faults columns x ++ columns_faults columns xs

-- a column that is set: the key isn't
abbrev pub set_faults : Option (List Name) → Name → List CheckFault
set_faults None x = []
set_faults (Some columns) x = fault_unless (has (texts columns) x.text) x.at Unknown ++ fault_unless (not (is_key columns x.text)) x.at KeyWritten

-- ---- parts that each text has: a tree that is none of a text may lack them

-- whether a transaction has a statement
abbrev pub are_some : Queries → Bool
are_some no_query = false
are_some (query q qs) = true

-- whether a select has a column
abbrev pub is_some_name : List Name → Bool
is_some_name [] = false
is_some_name (x ∷ xs) = true

-- whether an update has an assignment
abbrev pub is_some_set : Assignments → Bool
is_some_set no_assignment = false
is_some_set (assignment x e sets) = true

abbrev mutual
  -- an expression, with all its parts
  pub expression_faults : Program → List (List ℕ) → Expression → List CheckFault
  expression_faults program known (number at n) = []
  expression_faults program known (text at bytes) = fault_unless (nat_le (length bytes) MOST_LITERAL_BYTES) at WrongCount
  expression_faults program known (truth at b) = []
  expression_faults program known (null at) = []
  expression_faults program known (bracket at e) = expression_faults program known e
  expression_faults program known (variable at x) = fault_unless (has known x) at Undeclared
  expression_faults program known (call at f es) =
      called_faults program at (how_many es) (builtin_of program.version f) f
      ++ arguments_faults program known (names_store (builtin_of program.version f)) es
  expression_faults program known (list at es) = expressions_faults program known es
  expression_faults program known (transact at qs) = fault_unless (are_some qs) at WrongCount ++ queries_faults program known qs
  expression_faults program known (unary at operator e) = expression_faults program known e
  expression_faults program known (binary at operator left right) = expression_faults program known left ++ expression_faults program known right
  expression_faults program known (and_ at left right) = expression_faults program known left ++ expression_faults program known right
  expression_faults program known (or_ at left right) = expression_faults program known left ++ expression_faults program known right
  expression_faults program known (index at whole place) = expression_faults program known whole ++ expression_faults program known place

  -- expressions one after another
  pub expressions_faults : Program → List (List ℕ) → Expressions → List CheckFault
  expressions_faults program known no_expression = []
  expressions_faults program known (expression e es) = expression_faults program known e ++ expressions_faults program known es

  -- the arguments of a call; a store's name isn't searched for other faults
  pub arguments_faults : Program → List (List ℕ) → (store_first : Bool) → Expressions → List CheckFault
  arguments_faults program known store_first no_expression = []
  arguments_faults program known false (expression e es) = expression_faults program known e ++ expressions_faults program known es
  arguments_faults program known true (expression e es) = store_faults program e ++ expressions_faults program known es

  -- a statement of a transaction
  pub query_faults : Program → List (List ℕ) → Query → List CheckFault
  query_faults program known (insert at t es) = let table = columns_in program.declarations t.text in table_faults table t ++ row_faults table t (how_many es) ++ expressions_faults program known es
  query_faults program known (select at columns t cs) = let table = columns_in program.declarations t.text in fault_unless (is_some_name columns) at WrongCount ++ columns_faults table columns ++ table_faults table t ++ conditions_faults program known table cs
  query_faults program known (update at t sets cs) = let table = columns_in program.declarations t.text in fault_unless (is_some_set sets) at WrongCount ++ table_faults table t ++ assignments_faults program known table sets ++ conditions_faults program known table cs
  query_faults program known (delete at t cs) = let table = columns_in program.declarations t.text in table_faults table t ++ conditions_faults program known table cs
  query_faults program known (expect at e t cs) = let table = columns_in program.declarations t.text in expression_faults program known e ++ table_faults table t ++ conditions_faults program known table cs

  -- the statements of a transaction
  pub queries_faults : Program → List (List ℕ) → Queries → List CheckFault
  queries_faults program known no_query = []
  queries_faults program known (query q qs) = query_faults program known q ++ queries_faults program known qs

  -- the conditions on the columns of a table, where it is declared
  pub conditions_faults : Program → List (List ℕ) → Option (List Name) → Conditions → List CheckFault
  conditions_faults program known table no_condition = []
  conditions_faults program known table (condition x comparison e cs) =
      column_faults table x ++ expression_faults program known e ++ conditions_faults program known table cs

  -- the assignments to the columns of a table, where it is declared
  pub assignments_faults : Program → List (List ℕ) → Option (List Name) → Assignments → List CheckFault
  assignments_faults program known table no_assignment = []
  assignments_faults program known table (assignment x e sets) =
      set_faults table x ++ expression_faults program known e ++ assignments_faults program known table sets

-- ---- statements

-- the variables that are known after a statement
abbrev pub known_after : List (List ℕ) → Statement → List (List ℕ)
known_after known (let_ at x e) = with_name known x.text
known_after known (set_ at x e) = known
known_after known (if_ at e body other) = known
known_after known (while_ at e body) = known
known_after known (for_ at x e body) = known
known_after known (echo at e) = known
known_after known (status at e) = known
known_after known (return at e) = known
known_after known (do_ at e) = known

abbrev mutual
  -- a statement, where these variables are known before it
  pub statement_faults : Program → List (List ℕ) → Statement → List CheckFault
  statement_faults program known (let_ at x e) = declared_where known x ++ expression_faults program known e
  statement_faults program known (set_ at x e) = fault_unless (has known x.text) x.at Undeclared ++ expression_faults program known e
  statement_faults program known (if_ at e body other) =
      expression_faults program known e ++ statements_faults program known body ++ else_faults program known other
  statement_faults program known (while_ at e body) = expression_faults program known e ++ statements_faults program known body
  statement_faults program known (for_ at x e body) =
      declared_where known x ++ expression_faults program known e
      ++ statements_faults program (with_name known x.text) body
  statement_faults program known (echo at e) = expression_faults program known e
  statement_faults program known (status at e) = expression_faults program known e
  statement_faults program known (return at e) = expression_faults program known e
  statement_faults program known (do_ at e) = expression_faults program known e

  -- what stands behind an `else`, if there is one
  pub else_faults : Program → List (List ℕ) → Else → List CheckFault
  else_faults program known no_else = []
  else_faults program known (else_ body) = statements_faults program known body

  -- what a block declares is known up to its end
  pub statements_faults : Program → List (List ℕ) → Statements → List CheckFault
  statements_faults program known no_statement = []
  statements_faults program known (statement s ss) = statement_faults program known s ++ statements_faults program (known_after known s) ss

-- the statements of a block
abbrev pub block_faults : Program → List (List ℕ) → List Statement → List CheckFault
block_faults program known ss = statements_faults program known (statements_of ss)

-- ---- declarations, of which these stand before

-- whether a name has a function: one of the version, or one of these
abbrev pub names_function : Version → List Declaration → List ℕ → Bool
names_function version earlier f = is_some (builtin_of version f) || is_some (function_from f earlier)

-- a declaration of a program, where these stand before it
abbrev pub declaration_faults : (program : Program) → (earlier : List Declaration) → Declaration → List CheckFault
declaration_faults program earlier (Store at name) = fault_unless (not (declares_store earlier name.text)) name.at DeclaredTwice
declaration_faults program earlier (Table at name columns) =
    fault_unless (not (is_some (table_from 0 name.text earlier))) name.at DeclaredTwice ++ declared_in_turn [] columns
declaration_faults program earlier (Function at name parameters body) =
    fault_unless (not (names_function program.version earlier name.text)) name.at DeclaredTwice
    ++ declared_in_turn [] parameters ++ block_faults program (with_names [] parameters) body
declaration_faults program earlier (Page at path body) =
    fault_unless (not (is_some (page_from 0 path.text earlier))) path.at PageTwice ++ block_faults program [] body

-- what is wrong with each of the later ones, where these stand before them
abbrev pub in_turn : ((earlier : List Declaration) → Declaration → List CheckFault) → (earlier later : List Declaration) → List CheckFault
in_turn faults earlier [] = []
in_turn faults earlier (d ∷ ds) = faults earlier d ++ in_turn faults (earlier ++ d ∷ []) ds

-- all that is wrong with a program
abbrev pub faults_of : Program → List CheckFault
faults_of program = in_turn (declaration_faults program) [] program.declarations

-- There are no faults in it.
abbrev pub IsValid : Program → Type 0
IsValid program = faults_of program ≡ []
