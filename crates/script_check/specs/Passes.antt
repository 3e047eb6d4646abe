-- What each pass over the declarations looks for, where these stand before them; together it is `declaration_faults`.
use Rattle.std.specs.Prelude.{List, [], ◌++◌, not, is_some}
use Rattle.script_tree.specs.Declarations.{table_from, page_from}
use Rattle.script_tree.specs.Fit.{declares_store}
use Rattle.script_tree.specs.Programs.{Program}
use Rattle.script_tree.specs.declared.syntax.declaration.Declaration.{Declaration}
use Rattle.script_tree.specs.declared.syntax.declaration.Declaration.TheVariants.{Store, Table, Function, Page}
use Rattle.script_tree.specs.declared.syntax.tree.Version.{Version}
use Rattle.script_check.specs.Validity.{fault_unless, declared_in_turn, names_function, in_turn, with_names, block_faults}
use Rattle.script_check.specs.declared.fault.CheckFault.{CheckFault}
use Rattle.script_check.specs.declared.fault.CheckFaultKind.TheVariants.{DeclaredTwice, PageTwice}

-- a store whose name an earlier one has
abbrev pub store_twice : (earlier : List Declaration) → Declaration → List CheckFault
store_twice earlier (Store at name) = fault_unless (not (declares_store earlier name.text)) name.at DeclaredTwice
store_twice earlier (Table at name columns) = []
store_twice earlier (Function at name parameters body) = []
store_twice earlier (Page at path body) = []

-- a table whose name an earlier one has, and its columns
abbrev pub table_twice : (earlier : List Declaration) → Declaration → List CheckFault
table_twice earlier (Store at name) = []
table_twice earlier (Table at name columns) = fault_unless (not (is_some (table_from 0 name.text earlier))) name.at DeclaredTwice ++ declared_in_turn [] columns
table_twice earlier (Function at name parameters body) = []
table_twice earlier (Page at path body) = []

-- a function whose name an earlier one has, or a built-in one
abbrev pub function_twice : Version → (earlier : List Declaration) → Declaration → List CheckFault
function_twice version earlier (Store at name) = []
function_twice version earlier (Table at name columns) = []
function_twice version earlier (Function at name parameters body) = fault_unless (not (names_function version earlier name.text)) name.at DeclaredTwice
function_twice version earlier (Page at path body) = []

-- a page whose path an earlier one has
abbrev pub page_twice : (earlier : List Declaration) → Declaration → List CheckFault
page_twice earlier (Store at name) = []
page_twice earlier (Table at name columns) = []
page_twice earlier (Function at name parameters body) = []
page_twice earlier (Page at path body) = fault_unless (not (is_some (page_from 0 path.text earlier))) path.at PageTwice

-- the parameters and the body
abbrev pub body_faults : Program → Declaration → List CheckFault
body_faults program (Store at name) = []
body_faults program (Table at name columns) = []
body_faults program (Function at name parameters body) = declared_in_turn [] parameters ++ block_faults program (with_names [] parameters) body
body_faults program (Page at path body) = block_faults program [] body

-- ---- the passes over all declarations

-- all stores
abbrev pub store_pass : List Declaration → List CheckFault
store_pass ds = in_turn store_twice [] ds

-- all tables
abbrev pub table_pass : List Declaration → List CheckFault
table_pass ds = in_turn table_twice [] ds

-- all functions
abbrev pub function_pass : Version → List Declaration → List CheckFault
function_pass version ds = in_turn (function_twice version) [] ds

-- all pages
abbrev pub page_pass : List Declaration → List CheckFault
page_pass ds = in_turn page_twice [] ds

-- the bodies of all functions and pages
abbrev pub bodies_faults : Program → List Declaration → List CheckFault
bodies_faults program ds = in_turn (λ earlier. body_faults program) [] ds

-- what is found while the names are gathered, by which the bodies are checked
abbrev pub declared_faults : Program → List CheckFault
declared_faults program = store_pass program.declarations ++ table_pass program.declarations ++ function_pass program.version program.declarations
