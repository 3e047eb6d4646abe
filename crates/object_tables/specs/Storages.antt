-- The tables while a transaction runs, and before it; what functions make of them.
use Rattle.std.specs.Prelude.{◌≡◌, ℕ, ℤ, Bool, List, Option, Some, map}
use Rattle.script_tree.specs.Datum.{Datum, number}
use Rattle.script_tree.specs.Transactions.{Row, Table}
use Rattle.script_tree.specs.declared.transaction.Statement.{Statement}
use Rattle.object_tables.specs.declared.undo_log.Storage.{Storage}
use Rattle.object_tables.specs.Slots.{Slot, Slots, rows_of}
use Rattle.object_tables.specs.UndoLog.{put_at, replaced_at, with_puts_at, undone}
use Rattle.object_tables.specs.TransactionEnds.{IsInserted, Runs}

-- the slots of each table
abbrev pub slots_in : Storage → List Slots
slots_in s = s.tables.items

-- the rows of each table
abbrev pub rows_in : Storage → List Table
rows_in s = map rows_of s.tables.items

-- what taking the changes back leads to
abbrev pub before : Storage → List Slots
before s = undone s.undo_log.items s.tables.items

-- ---- slots

-- with this slot at a key of a table
abbrev pub Puts : ℕ → List ℕ → Slot → Storage → Storage → Type 0
Puts t k s old new = slots_in new ≡ put_at t k s (slots_in old)

-- with another slot at a key of a table that is there
abbrev pub Replaces : ℕ → List ℕ → Slot → Storage → Storage → Type 0
Replaces t k s old new = slots_in new ≡ replaced_at t k s (slots_in old)

-- with all of these slots in a table, at keys that are there
abbrev pub ReplacesAll : ℕ → Slots → Storage → Storage → Type 0
ReplacesAll t puts old new = slots_in new ≡ with_puts_at t puts (slots_in old)

-- ---- statements

-- the row was inserted, or its key is there
abbrev pub Inserts : ℕ → Row → Storage → Storage → Bool → Type 0
Inserts t row old new done = IsInserted t row (rows_in old) (rows_in new) done

-- the statement makes the new tables of the old, with this answer; nothing where it aborts
abbrev pub Does : Statement → Storage → Storage → Option Datum → Type 0
Does s old new answer = Runs s (rows_in old) (rows_in new) answer

-- it answers this number
abbrev pub Counts : Statement → Storage → Storage → ℤ → Type 0
Counts s old new n = Does s old new (Some (number n))

-- it changes nothing, and answers this
abbrev pub Shows : Statement → Storage → Datum → Type 0
Shows s now answer = Does s now now (Some answer)
