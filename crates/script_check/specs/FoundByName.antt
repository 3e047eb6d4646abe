-- What is found by name, as the definition sees it.
use Rattle.script_tree.specs.Declarations.{NumberedPage, DeclaredFunction, NumberedTable}
use Rattle.script_check.specs.declared.lookup.FoundPage.{FoundPage}
use Rattle.script_check.specs.declared.lookup.FoundFunction.{FoundFunction}
use Rattle.script_check.specs.declared.lookup.FoundTable.{FoundTable}

-- the page
abbrev pub page_of : FoundPage → NumberedPage
page_of p = record { number = p.number; body = p.body.now }

-- the function
abbrev pub function_of : FoundFunction → DeclaredFunction
function_of f = record { parameters = f.parameters.now; body = f.body.now }

-- the table
abbrev pub table_of : FoundTable → NumberedTable
table_of t = record { number = t.number; columns = t.columns.now }
