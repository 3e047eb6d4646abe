-- When objects fit a program: what it declares is there, and nothing else.
use Rattle.std.specs.Prelude.{◌≡◌, ◌≤ℤ◌, ℕ, ◌<◌, ◌≤◌, ℤ, pos, Bool, true, false, ◌||◌, List, [], ◌∷◌, length, Option, Some, None}
use Rattle.std.specs.Str.{bytes_eq}
use Rattle.std.specs.declared.cmp.Ordering.TheVariants.{Less}
use Rattle.basis.specs.Lists.{nth}
use Rattle.script_tree.specs.Datum.{Datum, text, IsWithinLimits}
use Rattle.script_tree.specs.Order.{compare}
use Rattle.script_tree.specs.Objects.{Cell, one, many, rows, reading, none, Objects}
use Rattle.script_tree.specs.Programs.{Program}
use Rattle.script_tree.specs.Transactions.{Row, Table, key}
use Rattle.script_tree.specs.declared.limits.TheConstants.{MOST_KEY_BYTES}
use Rattle.script_tree.specs.declared.operation.Object.{Object}
use Rattle.script_tree.specs.declared.operation.Object.TheVariants.{Register, Store, Tables, Clock, Dice}
use Rattle.script_tree.specs.declared.syntax.declaration.Declaration.{Declaration}
use Rattle.script_tree.specs.declared.syntax.declaration.Declaration.TheVariants.{Store as StoreOf, Table as TableOf, Function, Page}

-- ---- what a program declares

-- whether it declares a store of this name
abbrev pub declares_store : List Declaration → List ℕ → Bool
declares_store [] s = false
declares_store (StoreOf at name ∷ ds) s = bytes_eq s name.text || declares_store ds s
declares_store (TableOf at name columns ∷ ds) s = declares_store ds s
declares_store (Function at name parameters body ∷ ds) s = declares_store ds s
declares_store (Page at path body ∷ ds) s = declares_store ds s

-- how many columns each of its tables has, in order
abbrev pub table_widths : List Declaration → List ℕ
table_widths [] = []
table_widths (StoreOf at name ∷ ds) = table_widths ds
table_widths (TableOf at name columns ∷ ds) = length columns ∷ table_widths ds
table_widths (Function at name parameters body ∷ ds) = table_widths ds
table_widths (Page at path body ∷ ds) = table_widths ds

-- ---- what fits

-- A key, or the name of a register, isn't too long.
abbrev pub IsKey : List ℕ → Type 0
IsKey k = length k ≤ MOST_KEY_BYTES

-- What is stored under a name or a key is a value of a script, and the key isn't too long.
abbrev pub IsEntry : List ℕ → Option Datum → Type 0
IsEntry k None = Unit {0}
IsEntry k (Some d) = IsKey k × IsWithinLimits d

-- A row's key is a text that isn't too long.
abbrev pub IsRowKey : Datum → Type 0
IsRowKey d = (k : List ℕ) × (d ≡ text k) × IsKey k

-- A row has a value in each column.
pub record IsRow (width : ℕ) (row : Row) : Type 0 where
  pub columns : length row ≡ width
  pub key : IsRowKey (key row)
  pub values : (i : ℕ) (d : Datum) → nth row i ≡ Some d → IsWithinLimits d

-- Its rows stand in the order of their keys, no two of which are the same.
pub record IsTable (width : ℕ) (table : Table) : Type 0 where
  pub rows : (i : ℕ) (row : Row) → nth table i ≡ Some row → IsRow width row
  pub in_order : (i j : ℕ) (a b : Row) → i < j → nth table i ≡ Some a → nth table j ≡ Some b → compare (key a) (key b) ≡ Less

-- These are tables of these widths, one for each, in order.
abbrev pub AreTables : List ℕ → List Table → Type 0
AreTables [] [] = Unit {0}
AreTables [] (table ∷ tables) = ⊥
AreTables (width ∷ widths) [] = ⊥
AreTables (width ∷ widths) (table ∷ tables) = IsTable width table × AreTables widths tables

-- A store that is declared holds entries, another one holds none.
abbrev pub IsStore : Bool → (List ℕ → Option Datum) → Type 0
IsStore true m = (k : List ℕ) → IsEntry k (m k)
IsStore false m = (k : List ℕ) → m k ≡ None

-- What this object may hold.
abbrev pub FitsObject : Program → Object → Cell → Type 0
FitsObject program (Register x) cell = (d : Option Datum) × (cell ≡ one d) × IsEntry x d
FitsObject program (Store s) cell = (m : List ℕ → Option Datum) × (cell ≡ many m) × IsStore (declares_store program.declarations s) m
FitsObject program Tables cell = (tables : List Table) × (cell ≡ rows tables) × AreTables (table_widths program.declarations) tables
FitsObject program Clock cell = (last : ℤ) × (cell ≡ reading last) × (pos 0 ≤ℤ last)
FitsObject program Dice cell = cell ≡ none

-- Each object holds what it may.
abbrev pub Fit : Program → Objects → Type 0
Fit program objects = (o : Object) → FitsObject program o (objects o)
