-- What a table of ids holds.
use Rattle.std.specs.Prelude.{◌≡◌, ℕ, length, Option, Some, None, nat_eq, nat_lt, slice_index_or, if◌then◌else◌}
use Rattle.std.specs.BTreeMap.{get}
use Rattle.std.specs.Ordering.{nat_cmp}
use Rattle.request_tables.specs.declared.id_table.IdTable.{IdTable}

-- the number of an id, in its row where it has one
abbrev pub number_of : IdTable → ℕ → Option ℕ
number_of table id = if nat_lt id (length table.rows.items) then slice_index_or table.rows.items id None else get nat_cmp table.others id

-- Afterwards the id has this number, and every other one what it had.
abbrev pub Puts : ℕ → ℕ → IdTable → IdTable → Type 0
Puts id number old new = (other : ℕ) → number_of new other ≡ (if nat_eq other id then Some number else number_of old other)
