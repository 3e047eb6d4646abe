-- The stores of a program, by name.
use Rattle.std.specs.Prelude.{◌≡◌, ℕ, List, [], ◌∷◌, Bool, ◌||◌, if◌then◌else◌, Option, None, is_some, unwrap_or}
use Rattle.std.specs.BTreeMap.{is_at}
use Rattle.std.specs.Cmp.Lexicographic.{slice_cmp}
use Rattle.std.specs.Coded.{Coded, coded_list, coded×, coded_ℕ}
use Rattle.std.specs.Map.{lookup}
use Rattle.std.specs.Ordering.{nat_cmp}
use Rattle.std.specs.Str.{bytes_eq}
use Rattle.script_tree.specs.Datum.{Datum}
use Rattle.script_tree.specs.Fit.{declares_store, IsEntry}
use Rattle.script_tree.specs.Objects.{with_key}
use Rattle.script_tree.specs.declared.syntax.declaration.Declaration.{Declaration}
use Rattle.object_cells.specs.Cells.{Held, held, coded_held}

-- the stores with what each holds, in the order of their names
abbrev pub HeldByName : Type 0
HeldByName = List (List ℕ × Held)

-- how a proof stores them
abbrev pub coded_by_name : Coded HeldByName
coded_by_name = coded_list (coded× (coded_list coded_ℕ) coded_held)

-- what the store of a name holds, if there is such a store
abbrev pub store_of : HeldByName → List ℕ → Option Held
store_of stores s = lookup (is_at (slice_cmp nat_cmp s)) stores

-- there is a store of this name
abbrev pub has_store : HeldByName → List ℕ → Bool
has_store stores s = is_some (store_of stores s)

-- what stands under each key of a store; nothing where there is no such store
abbrev pub held_in : HeldByName → List ℕ → List ℕ → Option Datum
held_in stores s = held (unwrap_or (store_of stores s) [])

-- Exactly the stores that are declared are there.
abbrev pub AreDeclared : List Declaration → HeldByName → Type 0
AreDeclared declarations stores = (s : List ℕ) → has_store stores s ≡ declares_store declarations s

-- No store holds anything.
abbrev pub AreEmpty : HeldByName → Type 0
AreEmpty stores = (s k : List ℕ) → held_in stores s k ≡ None

-- What stands under any key of any store is an entry.
abbrev pub HoldEntries : HeldByName → Type 0
HoldEntries stores = (s k : List ℕ) → IsEntry k (held_in stores s k)

-- This key of this store has this now, and every other key of every store what it had; the same stores are there.
pub record ChangesIn (store key : List ℕ) (d : Option Datum) (old new : HeldByName) : Type 0 where
  pub same : (s : List ℕ) → has_store new s ≡ has_store old s
  pub held : (s k : List ℕ) → held_in new s k ≡ (if bytes_eq store s then with_key key d (held_in old store) k else held_in old s k)

-- After a declaration the store that it declares is there too, if it declares one, and nothing stands in a store that
-- nothing stood in.
pub record IsDeclaredToo (declaration : Declaration) (old new : HeldByName) : Type 0 where
  pub there : (s : List ℕ) → has_store new s ≡ (declares_store (declaration ∷ []) s || has_store old s)
  pub empty : AreEmpty old → AreEmpty new
