-- A set of objects in which more is stored.
use Rattle.std.specs.Prelude.{◌≡◌, ℕ, Bool, List, Option, Some, None, if◌then◌else◌}
use Rattle.std.specs.Str.{bytes_eq}
use Rattle.object_cells.specs.Cells.{held}
use Rattle.object_cells.specs.Stores.{has_store, held_in}
use Rattle.object_set.specs.ObjectSets.{HeldObjects}
use Rattle.json_texts.specs.Shapes.{Named}
use Rattle.state_file.specs.Givens.{Entry}
use Rattle.state_file.specs.Stored.{given_at, cell_at}

-- The registers hold these entries.
pub record PutsRegisters (entries : List Entry) (old new : HeldObjects) : Type 0 where
  pub registers : (x : List ℕ) → held new.registers x ≡ given_at entries x
  pub stores : new.stores ≡ old.stores
  pub tables : new.tables ≡ old.tables
  pub clock : new.clock ≡ old.clock

-- Nothing but what stores hold is another.
pub record ChangesStores (old new : HeldObjects) : Type 0 where
  pub same : (s : List ℕ) → has_store new.stores s ≡ has_store old.stores s
  pub registers : new.registers ≡ old.registers
  pub tables : new.tables ≡ old.tables
  pub clock : new.clock ≡ old.clock

-- The store holds these entries.
pub record PutsCells (store : List ℕ) (entries : List Entry) (old new : HeldObjects) : Type 0 where
  pub cells : (s k : List ℕ) → held_in new.stores s k ≡ (if bytes_eq store s then given_at entries k else held_in old.stores s k)
  pub others : ChangesStores old new

-- The stores hold these entries.
pub record PutsStores (stores : List (Named (List Entry))) (old new : HeldObjects) : Type 0 where
  pub cells : (s k : List ℕ) → held_in new.stores s k ≡ cell_at stores s k
  pub others : ChangesStores old new

-- Nothing but the rows of tables is another.
pub record ChangesTables (old new : HeldObjects) : Type 0 where
  pub widths : new.tables.widths ≡ old.tables.widths
  pub registers : new.registers ≡ old.registers
  pub stores : new.stores ≡ old.stores
  pub clock : new.clock ≡ old.clock

-- this, where it is done
abbrev pub if_done : {A : Type 0} → Bool → A → Option A
if_done done x = if done then Some x else None
