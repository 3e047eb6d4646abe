-- How many declarations of each sort a program has.
use Rattle.std.specs.Prelude.{List, Bool, true, false, count_by}
use Rattle.script_tree.specs.declared.syntax.declaration.Declaration.{Declaration}
use Rattle.script_tree.specs.declared.syntax.declaration.Declaration.TheVariants.{Store, Table, Function, Page}
use Rattle.script_check.specs.declared.counts.Counts.{Counts}

-- whether it declares a page
abbrev pub is_page : Declaration → Bool
is_page (Store at name) = false
is_page (Table at name columns) = false
is_page (Function at name parameters body) = false
is_page (Page at path body) = true

-- whether it declares a function
abbrev pub is_function : Declaration → Bool
is_function (Store at name) = false
is_function (Table at name columns) = false
is_function (Function at name parameters body) = true
is_function (Page at path body) = false

-- whether it declares a store
abbrev pub is_store : Declaration → Bool
is_store (Store at name) = true
is_store (Table at name columns) = false
is_store (Function at name parameters body) = false
is_store (Page at path body) = false

-- whether it declares a table
abbrev pub is_table : Declaration → Bool
is_table (Store at name) = false
is_table (Table at name columns) = true
is_table (Function at name parameters body) = false
is_table (Page at path body) = false

-- how many of each sort there are
abbrev pub counts_of : List Declaration → Counts
counts_of ds = record { pages = count_by is_page ds; functions = count_by is_function ds; stores = count_by is_store ds; tables = count_by is_table ds }
