-- What an index is of.
use Rattle.std.specs.Prelude.{◌≡◌, ℕ, List, option_map}
use Rattle.script_check.specs.Indexes.{at_text}
use Rattle.script_tree.specs.Declarations.{page_from, function_from, table_from}
use Rattle.script_tree.specs.Programs.{Program}
use Rattle.script_tree.specs.declared.syntax.declaration.Declaration.{Declaration}
use Rattle.script_check.specs.FoundByName.{page_of, function_of, table_of}
use Rattle.script_check.specs.declared.lookup.ByName.{ByName}
use Rattle.script_check.specs.declared.lookup.Index.TheInside.{Inside}

-- The maps tell what these declare.
pub record TellsAll (ds : List Declaration) (found : ByName) : Type 0 where
  pub pages : (x : List ℕ) → option_map page_of (at_text found.pages x) ≡ page_from 0 x ds
  pub functions : (x : List ℕ) → option_map function_of (at_text found.functions x) ≡ function_from x ds
  pub tables : (x : List ℕ) → option_map table_of (at_text found.tables x) ≡ table_from 0 x ds

-- the program that an index is of
abbrev pub indexed : Inside → Program
indexed index = index.program.now

-- What it finds by name is what the program declares.
abbrev pub IsIndex : Inside → Type 0
IsIndex index = TellsAll (indexed index).declarations index.found
