-- Which rows stand in tables at a position.
use Rattle.std.specs.Prelude.{◌≡◌, ℕ, ◌+◌, ◌<◌, List, [], ◌∷◌, length, nat_le, nat_eq, Bool, true, false, ◌&&◌, ◌||◌, if◌then◌else◌, Option, Some, None, slice_index_or}
use Rattle.std.specs.BTreeMap.{is_at}
use Rattle.std.specs.Cmp.Lexicographic.{slice_cmp}
use Rattle.std.specs.Map.{lookup}
use Rattle.std.specs.Option.{is_some}
use Rattle.std.specs.Cmp.Lexicographic.{pointwise}
use Rattle.std.specs.Ordering.{nat_cmp, eq_by_cmp}
use Rattle.std.specs.Str.{bytes_eq}
use Rattle.basis.specs.Lists.{nth}
use Rattle.script_tree.specs.Datum.{Datum, text}
use Rattle.script_tree.specs.Fit.{AreTables}
use Rattle.script_tree.specs.Order.{compare, compares}
use Rattle.script_tree.specs.Transactions.{Row, Table, key, column, meets, table_at, after_transaction}
use Rattle.script_tree.specs.declared.transaction.Test.{Test}
use Rattle.script_tree.specs.declared.transaction.Statement.{Statement}
use Rattle.script_tree.specs.declared.transaction.Statement.TheVariants.{Insert, Select, Update, Delete, Expect}
use Rattle.object_tables.specs.Keys.{is_key, row_at}
use Rattle.object_tables.specs.TransactionEnds.{IsInserted}
use Rattle.object_tables.specs.TableSets.{TableSet}
use Rattle.versioned_cells.specs.Versions.{VersionsByKey, history_at, held_at, AreAllUntil, AreChanges, Changes}
use Rattle.versioned_tables.specs.Parts.{kept}

-- ---- rows over time

-- the rows of each table by key, with their versions
abbrev pub RowsOverTime : Type 0
RowsOverTime = List (VersionsByKey Row)

-- the row of a key of a table at a position
abbrev pub row_then : ℕ → RowsOverTime → ℕ → List ℕ → Option Row
row_then p hs t k = held_at p (slice_index_or hs t []) k

-- At a position these tables stand.
abbrev pub IsStanding : ℕ → RowsOverTime → List Table → Type 0
IsStanding p hs tables = (t : ℕ) (k : List ℕ) → row_then p hs t k ≡ row_at k (table_at t tables)

-- Some tables of these widths stand at a position.
pub record Stands (widths : List ℕ) (p : ℕ) (hs : RowsOverTime) : Type 0 where
  pub tables : List Table
  pub fit : AreTables widths tables
  pub rows : IsStanding p hs tables

-- No version is from later.
abbrev pub AreFrom : ℕ → RowsOverTime → Type 0
AreFrom p hs = (t : ℕ) → AreAllUntil p (slice_index_or hs t [])

-- Each version of a row is another than the one before.
abbrev pub AllChange : RowsOverTime → Type 0
AllChange hs = (t : ℕ) (k : List ℕ) → AreChanges None (history_at k (slice_index_or hs t []))

-- ---- keys

-- keys of rows, each with the number of its table
abbrev pub Keys : Type 0
Keys = List (ℕ × List ℕ)

-- the row's key is one of these of the table
abbrev pub is_among : Keys → ℕ → Row → Bool
is_among [] t row = false
is_among (x ∷ keys) t row = (nat_eq x.0 t && is_key x.1 row) || is_among keys t row

-- it is one of these keys
abbrev pub is_in : Keys → ℕ → List ℕ → Bool
is_in [] t k = false
is_in (x ∷ keys) t k = (nat_eq x.0 t && bytes_eq x.1 k) || is_in keys t k

-- What is one of the old keys is one of the new ones.
abbrev pub Grows : Keys → Keys → Type 0
Grows old new = (t : ℕ) (k : List ℕ) → is_in old t k ≡ true → is_in new t k ≡ true

-- whether a row of this key ever stood
abbrev pub has_history : List ℕ → VersionsByKey Row → Bool
has_history k es = is_some (lookup (is_at (slice_cmp nat_cmp k)) es)

-- Among them is the key of each row of a table that ever stood and passes.
abbrev pub Finds : Keys → ℕ → List Test → VersionsByKey Row → Type 0
Finds keys t tests es = (row : Row) (k : List ℕ) → key row ≡ text k → meets tests row ≡ true → has_history k es ≡ true → is_in keys t k ≡ true

-- Each row that passes the test, or all of them, has this key.
abbrev pub IsTestedKey : Test → List ℕ → Type 0
IsTestedKey test only = (row : Row) (k : List ℕ) → key row ≡ text k → compares test.comparison (column test.column row) test.value ≡ true → k ≡ only

-- Each row that passes all tests has this key.
abbrev pub IsOnlyKey : List Test → List ℕ → Type 0
IsOnlyKey tests only = (row : Row) (k : List ℕ) → key row ≡ text k → meets tests row ≡ true → k ≡ only

-- Among them is each key that a statement looks at.
abbrev pub Reaches : RowsOverTime → Keys → Statement → Type 0
Reaches hs keys (Insert t row) = (k : List ℕ) → key row ≡ text k → is_in keys t k ≡ true
Reaches hs keys (Select t columns tests) = Finds keys t tests (slice_index_or hs t [])
Reaches hs keys (Update t changes tests) = Finds keys t tests (slice_index_or hs t [])
Reaches hs keys (Delete t tests) = Finds keys t tests (slice_index_or hs t [])
Reaches hs keys (Expect n t tests) = Finds keys t tests (slice_index_or hs t [])

-- the table and the tests of the rows that a statement looks at, where it isn't an insert
abbrev pub range_in : Statement → Option (ℕ × List Test)
range_in (Insert t row) = None
range_in (Select t columns tests) = Some (t, tests)
range_in (Update t changes tests) = Some (t, tests)
range_in (Delete t tests) = Some (t, tests)
range_in (Expect n t tests) = Some (t, tests)

-- What has the keys of one has those of the other.
abbrev pub LookAlike : Statement → Statement → Type 0
LookAlike a b = (hs : RowsOverTime) (keys : Keys) → Reaches hs keys a → Reaches hs keys b

-- Among them is each key that one of these statements looks at.
abbrev pub AllReached : RowsOverTime → Keys → List Statement → Type 0
AllReached hs keys [] = Unit {0}
AllReached hs keys (s ∷ ss) = Reaches hs keys s × AllReached hs keys ss

-- ---- a part of the rows at a position

-- The rows of these keys at the position, whatever tables stand there.
pub record IsPartAt (p : ℕ) (hs : RowsOverTime) (keys : Keys) (widths : List ℕ) (part : TableSet) : Type 0 where
  pub same : part.widths ≡ widths
  pub rows : (tables : List Table) → AreTables widths tables → IsStanding p hs tables → part.tables ≡ kept (is_among keys) tables

-- The row that stands is there now too, if one stands.
abbrev pub AddsRow : ℕ → Option Row → List Table → List Table → Type 0
AddsRow t None old new = new ≡ old
AddsRow t (Some row) old new = (done : Bool) × IsInserted t row old new done

-- This row of a table stands at the position under its key.
abbrev pub IsFoundAt : ℕ → RowsOverTime → ℕ × Row → Type 0
IsFoundAt p hs f = (k : List ℕ) → key f.1 ≡ text k → row_then p hs f.0 k ≡ Some f.1

-- The row that was found for a position, where one was, stands there.
abbrev pub AreFound : RowsOverTime → List (Option (ℕ × Row)) → Type 0
AreFound hs found = (p : ℕ) (f : ℕ × Row) → nth found p ≡ Some (Some f) → IsFoundAt p hs f

-- ---- what is noted

-- From a position on the rows of these keys are those of the part.
pub record NotesRows (since : ℕ) (keys : Keys) (part : List Table) (old new : RowsOverTime) : Type 0 where
  pub rows : (p t : ℕ) (k : List ℕ) → t < length old
      → row_then p new t k ≡ (if nat_le since p && is_in keys t k then row_at k (table_at t part) else row_then p old t k)
  pub until : AreFrom since new
  pub count : length new ≡ length old
  pub changes : AllChange old → AllChange new

-- equal rows, as a test that computes
abbrev pub same_rows : Row → Row → Bool
same_rows a b = pointwise (eq_by_cmp compare) a b

-- In one table this key has changed so.
pub record ChangesIn (i : ℕ) (key : List ℕ) (since : ℕ) (row : Option Row) (old new : RowsOverTime) : Type 0 where
  pub here : Changes same_rows since key row (slice_index_or old i []) (slice_index_or new i [])
  pub elsewhere : (t : ℕ) → nat_eq i t ≡ false → slice_index_or new t [] ≡ slice_index_or old t []
  pub count : length new ≡ length old

-- ---- a transaction at a position

-- Up to the position stands what stood, and from the next on what the transaction makes of what stood there.
pub record Advances (widths : List ℕ) (p : ℕ) (ss : List Statement) (old new : RowsOverTime) : Type 0 where
  pub before : (q t : ℕ) (k : List ℕ) → nat_le (p + 1) q ≡ false → row_then q new t k ≡ row_then q old t k
  pub after : (tables : List Table) → AreTables widths tables → IsStanding p old tables → (q : ℕ)
      → nat_le (p + 1) q ≡ true → IsStanding q new (after_transaction ss tables).0
  pub until : AreFrom (p + 1) new
  pub count : length new ≡ length old
  pub changes : AllChange old → AllChange new

-- what a transaction answers on what stands at a position
abbrev pub IsAnswerAt : List ℕ → ℕ → RowsOverTime → List Statement → Datum → Type 0
IsAnswerAt widths p hs ss d = (tables : List Table) → AreTables widths tables → IsStanding p hs tables → d ≡ (after_transaction ss tables).1
