-- A set of objects in which one thing more is stored.
use Rattle.std.specs.Prelude.{◌≡◌, ℕ, List, Bool, Some}
use Rattle.script_tree.specs.Datum.{Datum}
use Rattle.script_tree.specs.Transactions.{Row}
use Rattle.object_cells.specs.Cells.{Changes}
use Rattle.object_cells.specs.Stores.{ChangesIn}
use Rattle.object_tables.specs.TransactionEnds.{IsInserted}
use Rattle.object_set.specs.ObjectSets.{HeldObjects}

-- A register has this value now, and all else is as it was.
pub record PutsRegister (name : List ℕ) (d : Datum) (old new : HeldObjects) : Type 0 where
  pub register : Changes name (Some d) old.registers new.registers
  pub stores : new.stores ≡ old.stores
  pub tables : new.tables ≡ old.tables
  pub clock : new.clock ≡ old.clock

-- A key of a store has this value now, and all else is as it was.
pub record PutsCell (store key : List ℕ) (d : Datum) (old new : HeldObjects) : Type 0 where
  pub cell : ChangesIn store key (Some d) old.stores new.stores
  pub registers : new.registers ≡ old.registers
  pub tables : new.tables ≡ old.tables
  pub clock : new.clock ≡ old.clock

-- The row is there, or its key was.
pub record InsertsRow (table : ℕ) (row : Row) (old new : HeldObjects) (done : Bool) : Type 0 where
  pub inserted : IsInserted table row old.tables.tables new.tables.tables done
  pub widths : new.tables.widths ≡ old.tables.widths
  pub registers : new.registers ≡ old.registers
  pub stores : new.stores ≡ old.stores
  pub clock : new.clock ≡ old.clock
