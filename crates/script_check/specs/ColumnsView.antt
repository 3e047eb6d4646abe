-- The columns of a table, as the code keeps them.
use Rattle.std.specs.Prelude.{◌≡◌, List, []}
use Rattle.script_tree.specs.declared.syntax.name.Name.{Name}
use Rattle.script_check.specs.Validity.{with_names}
use Rattle.script_check.specs.declared.columns.Columns.TheInside.{Inside}

-- the columns, in order
abbrev pub columns_of : Inside → List Name
columns_of columns = columns.names.now

-- The names that are known are those of the columns.
abbrev pub AreColumns : Inside → Type 0
AreColumns columns = columns.known ≡ with_names [] (columns_of columns)
