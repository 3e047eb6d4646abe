-- That code is the code of its program.
use Rattle.std.specs.Prelude.{◌≡◌, ℕ, List, [], Option, Some, None, option_map, if◌then◌else◌}
use Rattle.std.specs.BTreeMap.{BTreeMap, get_by}
use Rattle.std.specs.Cmp.Lexicographic.{slice_cmp}
use Rattle.std.specs.Ordering.{nat_cmp}
use Rattle.std.specs.Str.{bytes_eq}
use Rattle.basis.specs.Lists.{or_else}
use Rattle.script_tree.specs.Programs.{Program}
use Rattle.script_code.specs.Code.{Entry, declarations_code, places_from, entry_from}
use Rattle.script_code.specs.Means.{Means}
use Rattle.script_code.specs.declared.translate.Code.{Code}
use Rattle.script_code.specs.declared.translate.PageEntry.{PageEntry}

-- what the map has at a path
abbrev pub at_path : BTreeMap (List ℕ) PageEntry → List ℕ → Option PageEntry
at_path map path = get_by (λ key. slice_cmp nat_cmp path key) map

-- an entry, as the definition sees it
abbrev pub entry_of : PageEntry → Entry
entry_of page = record { number = page.number; place = page.place }

-- the entry of a path
abbrev pub pages_of : Code → List ℕ → Option Entry
pages_of code path = option_map entry_of (at_path code.pages path)

-- The code means the program.
abbrev pub IsCodeOf : Program → Code → Type 0
IsCodeOf program code = Means program code.functions.items code.instructions.items (pages_of code)

-- Afterwards the map has the entry at the path too, where it had nothing.
abbrev pub PutsPage : List ℕ → PageEntry → BTreeMap (List ℕ) PageEntry → BTreeMap (List ℕ) PageEntry → Type 0
PutsPage path entry before after = (x : List ℕ) → at_path after x ≡ or_else (at_path before x) (if bytes_eq x path then Some entry else None)

-- The code has the program's instructions, the place of each function, and the entry of each page.
pub record IsTranslated (program : Program) (code : Code) : Type 0 where
  pub instructions : code.instructions.items ≡ declarations_code program program.declarations
  pub functions : code.functions.items ≡ places_from program 0 program.declarations
  pub entries : (path : List ℕ) → pages_of code path ≡ entry_from program 0 0 path program.declarations

-- Nothing is written yet.
pub record IsEmpty (code : Code) : Type 0 where
  pub instructions : code.instructions.items ≡ []
  pub functions : code.functions.items ≡ []
  pub pages : code.pages.entries ≡ []
