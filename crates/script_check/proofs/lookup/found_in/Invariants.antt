use Rattle.std.proofs.Common.{◌≡◌, ◌≤◌, ℕ, List, drop}
use Rattle.script_tree.specs.Declarations.{page_from, function_from, table_from}
use Rattle.script_check.specs.FoundByName.{page_of, function_of, table_of}
use Rattle.script_check.proofs.Told.{told}
use Rattle.script_check.proofs.lookup.found_in.Given as goal

abbrev pub invariant-loop-declaration : goal.invariant-loop-declaration
invariant-loop-declaration l = record {
  pages : (x : List ℕ) → told page_of l.found.pages x
      (page_from l.page_count x (drop l.declaration-index l.declaration-items)) ≡ page_from 0 x l.declaration-items;
  functions : (x : List ℕ) → told function_of l.found.functions x
      (function_from x (drop l.declaration-index l.declaration-items)) ≡ function_from x l.declaration-items;
  tables : (x : List ℕ) → told table_of l.found.tables x
      (table_from l.table_count x (drop l.declaration-index l.declaration-items))
      ≡ table_from 0 x l.declaration-items;
  few_pages : l.page_count ≤ l.declaration-index;
  few_tables : l.table_count ≤ l.declaration-index;
}
