-- Tables, and what a transaction does to them.
use Rattle.std.specs.Prelude.{ℕ, ℤ, pos, Bool, true, ◌&&◌, not, if◌then◌else◌, List, [], ◌∷◌, map, filter, length, Option, Some, None, option_and_then}
use Rattle.std.specs.Option.{option_map, option_map_or}
use Rattle.std.specs.Ordering.{int_eq, is_eq, is_lt}
use Rattle.script_tree.specs.Datum.{Datum, null, number, list, data_of}
use Rattle.script_tree.specs.Order.{compare, compares}
use Rattle.basis.specs.Lists.{nth_or, with_nth}
use Rattle.script_tree.specs.declared.transaction.Test.{Test}
use Rattle.script_tree.specs.declared.transaction.Change.{Change}
use Rattle.script_tree.specs.declared.transaction.Statement.{Statement}
use Rattle.script_tree.specs.declared.transaction.Statement.TheVariants.{Insert, Select, Update, Delete, Expect}

-- A row is its values by column, and a table its rows in the order of their keys.
abbrev pub Row : Type 0
Row = List Datum

-- a table
abbrev pub Table : Type 0
Table = List Row

-- a row's value in a column; null where it has none
abbrev pub column : ℕ → Row → Datum
column c row = nth_or null row c

-- the first column
abbrev pub key : Row → Datum
key row = column 0 row

-- ---- where

-- the row passes all tests
abbrev pub meets : List Test → Row → Bool
meets [] row = true
meets (t ∷ ts) row = compares t.comparison (column t.column row) t.value && meets ts row

-- the rows that pass all tests
abbrev pub meeting_rows : List Test → Table → Table
meeting_rows tests rows = filter (meets tests) rows

-- how many rows pass all tests
abbrev pub row_count : List Test → Table → ℤ
row_count tests rows = pos (length (meeting_rows tests rows))

-- ---- what statements do with rows

-- the row after some assignments, made in order
abbrev pub changed_row : List Change → Row → Row
changed_row [] row = row
changed_row (c ∷ cs) row = changed_row cs (with_nth c.column c.value row)

-- these columns of a row, as a list
abbrev pub selected_columns : List ℕ → Row → Datum
selected_columns columns row = list (data_of (map (λ c. column c row) columns))

-- with a row more, at its key's place; nothing where the key is there
abbrev pub with_row : Row → Table → Option Table
with_row r [] = Some (r ∷ [])
with_row r (x ∷ xs) =
    if is_eq (compare (key r) (key x)) then None else
    (if is_lt (compare (key r) (key x)) then Some (r ∷ x ∷ xs) else option_map (λ ys. x ∷ ys) (with_row r xs))

-- the rows that pass are changed
abbrev pub updated_rows : List Change → List Test → Table → Table
updated_rows changes tests rows = map (λ r. if meets tests r then changed_row changes r else r) rows

-- the rows that don't pass
abbrev pub other_rows : List Test → Table → Table
other_rows tests rows = filter (λ r. not (meets tests r)) rows

-- ---- statements

-- the table of a number; no rows where there is none
abbrev pub table_at : ℕ → List Table → Table
table_at t tables = nth_or [] tables t

-- The tables and the answer after a statement; nothing where it aborts, as an insert of a key that is there does, and an
-- expectation of another number of rows.
abbrev pub after_statement : Statement → List Table → Option (List Table × Datum)
after_statement (Insert t row) tables = option_map (λ rows. (with_nth t rows tables, null)) (with_row row (table_at t tables))
after_statement (Select t columns tests) tables = Some (tables, list (data_of (map (selected_columns columns) (meeting_rows tests (table_at t tables)))))
after_statement (Update t changes tests) tables =
    Some (with_nth t (updated_rows changes tests (table_at t tables)) tables, number (row_count tests (table_at t tables)))
after_statement (Delete t tests) tables = Some (with_nth t (other_rows tests (table_at t tables)) tables, number (row_count tests (table_at t tables)))
after_statement (Expect n t tests) tables = if int_eq n (row_count tests (table_at t tables)) then Some (tables, null) else None

-- the tables and the answers after all statements in order; nothing where one aborts
abbrev pub after_statements : List Statement → List Table → Option (List Table × List Datum)
after_statements [] tables = Some (tables, [])
after_statements (s ∷ ss) tables =
    option_and_then (λ r. option_map (λ rest. (rest.0, r.1 ∷ rest.1)) (after_statements ss r.0)) (after_statement s tables)

-- The tables after a transaction, and its answer: the answers of its statements, or null where one aborted, which leaves the
-- tables as they were.
abbrev pub after_transaction : List Statement → List Table → List Table × Datum
after_transaction ss tables = option_map_or (λ r. (r.0, list (data_of r.1))) (after_statements ss tables) (tables, null)
