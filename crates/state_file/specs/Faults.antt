-- What may be wrong with what a state gives.
use Rattle.std.specs.Prelude.{pos, int_le, nat_le, Bool, true, ◌&&◌, not, List, length, is_some}
use Rattle.std.specs.List.{list_all, list_any}
use Rattle.std.specs.Map.{keys_of}
use Rattle.script_tree.specs.Datum.{Datum, null, bool, number, text, list, is_within_limits}
use Rattle.script_tree.specs.Declarations.{table_from}
use Rattle.script_tree.specs.Fit.{declares_store}
use Rattle.script_tree.specs.Programs.{Program}
use Rattle.script_tree.specs.Transactions.{Row, key}
use Rattle.script_tree.specs.declared.limits.TheConstants.{MOST_KEY_BYTES}
use Rattle.json_texts.specs.Shapes.{Named, has_twice}
use Rattle.state_file.specs.Givens.{Entry}
use Rattle.state_file.specs.Stored.{given_tables}
use Rattle.state_file.specs.declared.given.Given.{Given}

-- ---- names

-- whether the program declares each store and each table that is given
abbrev pub are_declared : Program → Given → Bool
are_declared program given =
    list_all (λ s. declares_store program.declarations s.0) given.stores
    && list_all (λ t. is_some (table_from 0 t.0 program.declarations)) given.tables

-- ---- limits

-- whether the key isn't too long, and the value is within its limits
abbrev pub is_entry_within_limits : Entry → Bool
is_entry_within_limits e = nat_le (length e.0) MOST_KEY_BYTES && is_within_limits e.1

-- the same of each entry
abbrev pub are_entries_within_limits : List Entry → Bool
are_entries_within_limits entries = list_all is_entry_within_limits entries

-- as a row's key; where it is no text, it isn't too long
abbrev pub is_short : Datum → Bool
is_short null = true
is_short (bool b) = true
is_short (number n) = true
is_short (text bytes) = nat_le (length bytes) MOST_KEY_BYTES
is_short (list ds) = true

-- whether the values are within their limits, and the key isn't too long
abbrev pub is_row_within_limits : Row → Bool
is_row_within_limits row = list_all is_within_limits row && is_short (key row)

-- the same of each row
abbrev pub are_rows_within_limits : List Row → Bool
are_rows_within_limits rows = list_all is_row_within_limits rows

-- the same of all entries and rows, and that the clock isn't below zero
abbrev pub are_within_limits : Given → Bool
are_within_limits given =
    are_entries_within_limits given.registers
    && list_all (λ s. are_entries_within_limits s.1) given.stores
    && list_all (λ t. are_rows_within_limits t.1) given.tables
    && int_le (pos 0) given.clock

-- ---- what can be stored

-- whether a store is given a key twice
abbrev pub some_key_is_twice : List (Named (List Entry)) → Bool
some_key_is_twice stores = list_any (λ s. has_twice (keys_of s.1)) stores

-- no register and no store's key is given twice, and the rows are those of the tables with each key once
abbrev pub is_storable : Program → Given → Bool
is_storable program given =
    not (has_twice (keys_of given.registers)) && not (some_key_is_twice given.stores) && is_some (given_tables program given.tables)
