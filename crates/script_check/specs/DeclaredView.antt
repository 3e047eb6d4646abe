-- What the names that the check finds are of.
use Rattle.script_tree.specs.Programs.{Program}
use Rattle.script_check.specs.Indexes.{TellsStores, TellsTables, TellsFunctions}
use Rattle.script_check.specs.declared.declared.Declared.TheInside.{Inside}

-- the tree that declares them
abbrev pub tree_in : Inside → Program
tree_in declared = declared.tree.now

-- What is kept by name is what the tree declares.
pub record IsDeclared (declared : Inside) : Type 0 where
  pub stores : TellsStores (tree_in declared).declarations declared.stores
  pub tables : TellsTables (tree_in declared).declarations declared.tables
  pub functions : TellsFunctions (tree_in declared).declarations declared.functions
