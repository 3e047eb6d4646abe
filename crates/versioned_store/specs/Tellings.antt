-- What versions tell of the log of their object.
use Rattle.std.specs.Prelude.{◌≡◌, ℕ, List, Option, Some, None}
use Rattle.script_tree.specs.declared.operation.Object.TheVariants.{Register, Store, Tables, Clock, Dice}
use Rattle.object_cells.specs.Cells.{held}
use Rattle.object_cells.specs.Stores.{held_in}
use Rattle.versioned_cells.specs.Logs.{TellsRegister, TellsStore}
use Rattle.versioned_store.specs.Logged.{Logged}
use Rattle.versioned_store.specs.Tables.{TellsSelects}
use Rattle.versioned_store.specs.declared.selects.SelectedTables.{SelectedTables}
use Rattle.versioned_store.specs.declared.versions.Versions.{Versions}
use Rattle.versioned_store.specs.declared.versions.Versions.TheVariants.{Register as OfRegister, Store as OfStore, Tables as OfTables, Clock as OfClock, Dice as OfDice}

-- the tables over time, where it is they
abbrev pub tables_of : Versions → Option SelectedTables
tables_of (OfRegister vs) = None
tables_of (OfStore es) = None
tables_of (OfTables t) = Some t
tables_of OfClock = None
tables_of OfDice = None

-- At each position of the log stands what the entries before it leave of its object.
abbrev pub Tells : Logged → Versions → Type 0
Tells o (OfRegister vs) = (x : List ℕ) × (o.log.object ≡ Register x) × TellsRegister o.log.entries (held o.start.registers x) vs
Tells o (OfStore es) = (s : List ℕ) × (o.log.object ≡ Store s) × TellsStore o.log.entries (held_in o.start.stores s) es
Tells o (OfTables t) = (o.log.object ≡ Tables) × TellsSelects o.log.entries o.start.tables t
Tells o OfClock = o.log.object ≡ Clock
Tells o OfDice = o.log.object ≡ Dice
