-- What a shelf in memory tells.
use Rattle.std.specs.Prelude.{ℕ, List, map, Some, String, string_bytes}
use Rattle.std.specs.declared.vec.Vec.{Vec}
use Rattle.std.specs.BTreeMap.{BTreeMap}
use Rattle.std.specs.FinMap.{from_entries}
use Rattle.outside.specs.Failing.{fault_count, is_sure}
use Rattle.outside.specs.Files.{Files}
use Rattle.outside.specs.Shelves.{ShelfTold}
use Rattle.outside.specs.declared.memory.failing.Failing.{Failing}
use Rattle.outside.specs.declared.memory.shelf.MemShelf.{MemShelf}

module _ {A B : Type 0} where
  -- an entry's name and bytes
  abbrev pub file_of : String A × Vec ℕ B → List ℕ × List ℕ
  file_of entry = (string_bytes entry.0, entry.1.items)

  -- the bytes under each name
  abbrev pub files_of : BTreeMap (String A) (Vec ℕ B) → Files
  files_of kept = from_entries (map file_of kept.entries)

-- what a shelf tells
abbrev pub shelf_told : MemShelf → ShelfTold
shelf_told shelf = record {
  files = Some (files_of shelf.files);
  faults = fault_count shelf.failing;
  absences = shelf.absences;
  never_fails = is_sure shelf.failing;
}

-- its calls that fail
abbrev pub shelf_failing : MemShelf → Failing
shelf_failing shelf = shelf.failing
