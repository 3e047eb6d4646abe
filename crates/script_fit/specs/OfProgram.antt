-- Which operations and choices are of a program, as tests that compute. What values are within the limits isn't asked here.
use Rattle.std.specs.Prelude.{◌≡◌, ℕ, pos, Bool, true, false, ◌&&◌, not, List, length, Option, Some, None, nat_eq, nat_lt, nat_le, int_le}
use Rattle.std.specs.List.{list_all}
use Rattle.basis.specs.Lists.{nth}
use Rattle.script_tree.specs.Datum.{Datum, null, bool, number, text, list}
use Rattle.script_tree.specs.Fit.{declares_store, table_widths}
use Rattle.script_tree.specs.Programs.{Program}
use Rattle.script_tree.specs.Transactions.{Row, key}
use Rattle.script_tree.specs.declared.limits.TheConstants.{MOST_KEY_BYTES}
use Rattle.script_tree.specs.declared.operation.Act.{Act}
use Rattle.script_tree.specs.declared.operation.Act.TheVariants.{Read, Write, Get, Put, Remove, Transact, Now, Roll}
use Rattle.script_tree.specs.declared.operation.Choice.{Choice}
use Rattle.script_tree.specs.declared.operation.Choice.TheVariants.{Nothing, Number}
use Rattle.script_tree.specs.declared.operation.Object.{Object}
use Rattle.script_tree.specs.declared.operation.Object.TheVariants.{Register, Store, Tables, Clock, Dice}
use Rattle.script_tree.specs.declared.operation.Op.{Op}
use Rattle.script_tree.specs.declared.transaction.Change.{Change}
use Rattle.script_tree.specs.declared.transaction.Statement.{Statement}
use Rattle.script_tree.specs.declared.transaction.Statement.TheVariants.{Insert, Select, Update, Delete, Expect}
use Rattle.script_tree.specs.declared.transaction.Test.{Test}
use Rattle.script_tree.specs.ActLimits.{IsActWithinLimits}
use Rattle.script_fit.specs.FitsOperation.{FitsOperation}
use Rattle.script_fit.specs.FitsTransaction.{table_of}

-- ---- statements

-- the name of a register or a key isn't too long
abbrev pub is_key : List ℕ → Bool
is_key k = nat_le (length k) MOST_KEY_BYTES

-- a row's key is a text that isn't too long
abbrev pub is_row_key : Datum → Bool
is_row_key null = false
is_row_key (bool b) = false
is_row_key (number n) = false
is_row_key (text k) = is_key k
is_row_key (list ds) = false

-- a row has so many values, the first a key
abbrev pub row_is_of : ℕ → Row → Bool
row_is_of width row = nat_eq (length row) width && is_row_key (key row)

-- tests are of columns that are there
abbrev pub tests_are_of : ℕ → List Test → Bool
tests_are_of width tests = list_all (λ t. nat_lt t.column width) tests

-- changes are to columns that are there, and not to the key
abbrev pub changes_are_of : ℕ → List Change → Bool
changes_are_of width changes = list_all (λ c. nat_lt 0 c.column && nat_lt c.column width) changes

-- a statement is of a table of so many columns
abbrev pub is_of_width : Statement → ℕ → Bool
is_of_width (Insert t row) width = row_is_of width row
is_of_width (Select t columns tests) width = nat_lt 0 (length columns) && (list_all (λ c. nat_lt c width) columns && tests_are_of width tests)
is_of_width (Update t changes tests) width = nat_lt 0 (length changes) && (changes_are_of width changes && tests_are_of width tests)
is_of_width (Delete t tests) width = tests_are_of width tests
is_of_width (Expect n t tests) width = tests_are_of width tests

-- a test of what is there, which fails where nothing is
abbrev pub if_there : (ℕ → Bool) → Option ℕ → Bool
if_there test None = false
if_there test (Some width) = test width

-- its table is there, and it is of that one's columns
abbrev pub statement_is_of : List ℕ → Statement → Bool
statement_is_of widths s = if_there (is_of_width s) (nth widths (table_of s))

-- ---- operations

-- the act is one of the object's, and names only what is there: these stores, and tables of so many columns each
abbrev pub is_act_of : (List ℕ → Bool) → List ℕ → Object → Act → Bool
is_act_of stores widths (Register x) Read = is_key x
is_act_of stores widths (Register x) (Write d) = is_key x
is_act_of stores widths (Store s) (Get k) = stores s && is_key k
is_act_of stores widths (Store s) (Put k d) = stores s && is_key k
is_act_of stores widths (Store s) (Remove k) = stores s && is_key k
is_act_of stores widths Tables (Transact ss) = nat_lt 0 (length ss) && list_all (statement_is_of widths) ss
is_act_of stores widths Clock Now = true
is_act_of stores widths Dice (Roll bound) = int_le (pos 1) bound
is_act_of stores widths (Register x) act = false
is_act_of stores widths (Store s) act = false
is_act_of stores widths Tables act = false
is_act_of stores widths Clock act = false
is_act_of stores widths Dice act = false

-- the act is one of the object's, and names only what the program declares
abbrev pub is_of_program : Program → Object → Act → Bool
is_of_program program object act =
    is_act_of (declares_store program.declarations) (table_widths program.declarations) object act

-- ---- choices

-- acts whose choice is a number: the clock's and the dice's
abbrev pub takes_number : Act → Bool
takes_number Read = false
takes_number (Write d) = false
takes_number (Get k) = false
takes_number (Put k d) = false
takes_number (Remove k) = false
takes_number (Transact ss) = false
takes_number Now = true
takes_number (Roll bound) = true

-- a number is chosen exactly of the clock and of the dice
abbrev pub choice_is_of : Act → Choice → Bool
choice_is_of act Nothing = not (takes_number act)
choice_is_of act (Number n) = takes_number act

-- An operation fits a program exactly where it is of the program and its values are within the limits.
pub record FittingIsTested : Type 0 where
  pub is_of : (program : Program) (op : Op) → FitsOperation program op → is_of_program program op.object op.act ≡ true
  pub within : (program : Program) (op : Op) → FitsOperation program op → IsActWithinLimits op.act
  pub fits : (program : Program) (op : Op) → is_of_program program op.object op.act ≡ true → IsActWithinLimits op.act → FitsOperation program op
