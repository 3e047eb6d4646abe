-- What is stored where a state gives this.
use Rattle.std.specs.Prelude.{ℕ, Bool, true, false, ◌&&◌, ◌==◌, List, [], ◌∷◌, length, Option, Some, None, unwrap_or, if◌then◌else◌}
use Rattle.std.specs.Map.{lookup}
use Rattle.std.specs.Str.{bytes_eq}
use Rattle.basis.specs.Options.{◌>>=◌}
use Rattle.object_tables.specs.TransactionEnds.{with_row_at}
use Rattle.object_tables.specs.TableSets.{no_rows}
use Rattle.script_tree.specs.Datum.{Datum, null, bool, number, text, list}
use Rattle.script_tree.specs.Declarations.{table_from}
use Rattle.script_tree.specs.Fit.{table_widths}
use Rattle.script_tree.specs.Objects.{Objects, one, many, rows, reading, none}
use Rattle.script_tree.specs.Programs.{Program}
use Rattle.script_tree.specs.Transactions.{Row, Table, key}
use Rattle.script_tree.specs.declared.operation.Object.TheVariants.{Register, Store, Tables, Clock, Dice}
use Rattle.script_tree.specs.declared.syntax.declaration.Declaration.{Declaration}
use Rattle.json_texts.specs.Shapes.{Named}
use Rattle.state_file.specs.Givens.{Entry}
use Rattle.state_file.specs.declared.given.Given.{Given}

-- ---- registers and stores

-- what is given under a name
abbrev pub given_at : {A : Type 0} → List (Named A) → List ℕ → Option A
given_at given x = lookup (bytes_eq x) given

-- the value of a key of a store
abbrev pub cell_at : List (Named (List Entry)) → List ℕ → List ℕ → Option Datum
cell_at stores s k = given_at (unwrap_or (given_at stores s) []) k

-- ---- tables

-- whether a value is a text
abbrev pub is_text : Datum → Bool
is_text null = false
is_text (bool b) = false
is_text (number n) = false
is_text (text bytes) = true
is_text (list ds) = false

-- a value for each of so many columns, and a text for the key
abbrev pub is_row_of : ℕ → Row → Bool
is_row_of width row = (length row == width) && is_text (key row)

-- With a row more, where it is one of the table with this number and width, and its key isn't there.
abbrev pub with_row_of : ℕ → ℕ → Row → List Table → Option (List Table)
with_row_of t width row tables = if is_row_of width row then with_row_at t row tables else None

-- with one row after another
abbrev pub with_rows : ℕ → ℕ → List Row → List Table → Option (List Table)
with_rows t width [] tables = Some tables
with_rows t width (row ∷ more) tables = with_row_of t width row tables >>= with_rows t width more

-- with the rows of one table after another; nothing where one isn't declared
abbrev pub with_tables : List Declaration → List (Named (List Row)) → List Table → Option (List Table)
with_tables ds [] tables = Some tables
with_tables ds (given ∷ more) tables = do
  t ← table_from 0 given.0 ds
  next ← with_rows t.number (length t.columns) given.1 tables
  with_tables ds more next

-- the tables of a program with these rows
abbrev pub given_tables : Program → List (Named (List Row)) → Option (List Table)
given_tables program tables = with_tables program.declarations tables (no_rows (table_widths program.declarations))

-- ---- all objects

-- what each object holds at the start
abbrev pub given_objects : Program → Given → Objects
given_objects program given (Register x) = one (given_at given.registers x)
given_objects program given (Store s) = many (cell_at given.stores s)
given_objects program given Tables = rows (unwrap_or (given_tables program given.tables) [])
given_objects program given Clock = reading given.clock
given_objects program given Dice = none
