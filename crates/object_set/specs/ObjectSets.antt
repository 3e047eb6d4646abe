-- What a set of objects holds.
use Rattle.std.specs.Prelude.{◌≡◌, ◌≤ℤ◌, ℤ, pos, [], refl}
use Rattle.std.specs.Coded.{Coded, code_by, coded×, coded_ℤ}
use Rattle.script_tree.specs.Fit.{AreTables, table_widths}
use Rattle.script_tree.specs.Objects.{Objects, one, many, rows, reading, none}
use Rattle.script_tree.specs.Programs.{Program}
use Rattle.script_tree.specs.declared.operation.Object.TheVariants.{Register, Store, Tables, Clock, Dice}
use Rattle.object_cells.specs.Cells.{Held, held, coded_held, HoldsEntries}
use Rattle.object_cells.specs.Stores.{HeldByName, held_in, coded_by_name, AreDeclared, AreEmpty, HoldEntries}
use Rattle.object_tables.specs.TableSets.{TableSet, coded_table_set, no_rows}

-- What registers, stores and tables hold, and what the clock read last.
pub record HeldObjects : Type 0 where
  pub registers : Held
  pub stores : HeldByName
  pub tables : TableSet
  -- the clock's last reading
  pub clock : ℤ

-- the set of these
abbrev pub held_objects : Held → HeldByName → TableSet → ℤ → HeldObjects
held_objects registers stores tables clock = record { registers = registers; stores = stores; tables = tables; clock = clock }

-- what each object holds
abbrev pub objects_of : HeldObjects → Objects
objects_of h (Register x) = one (held h.registers x)
objects_of h (Store s) = many (held_in h.stores s)
objects_of h Tables = rows h.tables.tables
objects_of h Clock = reading h.clock
objects_of h Dice = none

-- The set has the stores and the tables of a program, and no other.
pub record IsSetOf (program : Program) (h : HeldObjects) : Type 0 where
  pub stores : AreDeclared program.declarations h.stores
  pub widths : h.tables.widths ≡ table_widths program.declarations

-- Nothing is stored.
pub record IsEmptySet (h : HeldObjects) : Type 0 where
  pub registers : h.registers ≡ []
  pub stores : AreEmpty h.stores
  pub tables : h.tables.tables ≡ no_rows h.tables.widths
  pub clock : h.clock ≡ pos 0

-- Each object holds what it may.
pub record AreKept (h : HeldObjects) : Type 0 where
  pub registers : HoldsEntries h.registers
  pub stores : HoldEntries h.stores
  pub tables : AreTables h.tables.widths h.tables.tables
  pub clock : pos 0 ≤ℤ h.clock

-- how a proof stores them
abbrev pub coded_objects : Coded HeldObjects
coded_objects =
    code_by (Held × (HeldByName × (TableSet × ℤ))) (coded× coded_held (coded× coded_by_name (coded× coded_table_set coded_ℤ)))
    (λ h. (h.registers, (h.stores, (h.tables, h.clock)))) (λ p. held_objects p.0 p.1.0 p.1.1.0 p.1.1.1) (λ _. refl)
