-- What a program declares, as the code keeps it.
use Rattle.std.specs.Prelude.{◌≡◌, ℕ, List, length, Option, Some, None, option_map, is_some, if◌then◌else◌}
use Rattle.std.specs.BTreeMap.{BTreeMap, get_by}
use Rattle.std.specs.BTreeSet.{BTreeSet}
use Rattle.std.specs.Cmp.Lexicographic.{slice_cmp}
use Rattle.std.specs.Ordering.{nat_cmp}
use Rattle.std.specs.Str.{bytes_eq}
use denote.Ref.{Bor}
use Rattle.basis.specs.Lists.{or_else}
use Rattle.script_tree.specs.Declarations.{function_from, page_from}
use Rattle.script_tree.specs.Fit.{declares_store}
use Rattle.script_tree.specs.declared.syntax.declaration.Declaration.{Declaration}
use Rattle.script_tree.specs.declared.syntax.name.Name.{Name}
use Rattle.script_check.specs.Scopes.{holds}
use Rattle.script_check.specs.Validity.{columns_in}

-- what the map has at this text
abbrev pub at_text : {A : Type 0} → BTreeMap (Bor (List ℕ)) A → List ℕ → Option A
at_text map x = get_by (λ key. slice_cmp nat_cmp x key.now) map

-- how many parameters the function of a name has
abbrev pub parameters_in : List Declaration → List ℕ → Option ℕ
parameters_in ds f = option_map (λ found. length found.parameters) (function_from f ds)

-- The set has the names of the stores that these declare.
abbrev pub TellsStores : List Declaration → BTreeSet (Bor (List ℕ)) → Type 0
TellsStores ds stores = (x : List ℕ) → holds stores x ≡ declares_store ds x

-- The map has the columns of each table that these declare.
abbrev pub TellsTables : List Declaration → BTreeMap (Bor (List ℕ)) (List Name) → Type 0
TellsTables ds tables = (x : List ℕ) → at_text tables x ≡ columns_in ds x

-- The map has how many parameters each function has that these declare.
abbrev pub TellsFunctions : List Declaration → BTreeMap (Bor (List ℕ)) ℕ → Type 0
TellsFunctions ds functions = (x : List ℕ) → at_text functions x ≡ parameters_in ds x

-- The set has the paths of the pages that these declare.
abbrev pub TellsPages : List Declaration → BTreeSet (Bor (List ℕ)) → Type 0
TellsPages ds pages = (x : List ℕ) → holds pages x ≡ is_some (page_from 0 x ds)

-- Afterwards the map has this at the name too, where it had nothing.
abbrev pub Puts : {A : Type 0} → List ℕ → A → BTreeMap (Bor (List ℕ)) A → BTreeMap (Bor (List ℕ)) A → Type 0
Puts name value before after = (x : List ℕ) → at_text after x ≡ or_else (at_text before x) (if bytes_eq x name then Some value else None)
