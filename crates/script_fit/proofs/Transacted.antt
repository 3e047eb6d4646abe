-- Tables stay tables in a transaction that fits them.
use Rattle.std.proofs.Common.{◌≡◌, ℕ, zero, suc, Bool, true, false, cond, List, [], ◌∷◌, Option, Some, None, refl, sym, subst}
use Rattle.std.specs.Prelude.{option_and_then}
use Rattle.std.specs.Option.{option_map, option_map_or}
use Rattle.std.specs.Ordering.{int_eq}
use Rattle.basis.specs.Lists.{nth, with_nth}
use Rattle.basis.proofs.Options.{some_is, none_is_not}
use Rattle.script_tree.specs.Datum.{Datum, null, list, data_of}
use Rattle.script_tree.specs.Fit.{IsTable, AreTables}
use Rattle.script_tree.specs.Transactions.{Table, table_at, with_row, row_count, after_statement, after_statements, after_transaction}
use Rattle.script_tree.specs.declared.transaction.Statement.{Statement}
use Rattle.script_tree.specs.declared.transaction.Statement.TheVariants.{Insert, Select, Update, Delete, Expect}
use Rattle.script_tree.specs.ActLimits.{AreWithinLimits}
use Rattle.script_fit.specs.FitsTransaction.{FitStatements, FitsTransaction}
use Rattle.script_fit.specs.StoredLimits.{stored_by, StoreWithinLimits}
use Rattle.script_fit.specs.TransactionOf.{IsStatementOf, IsTransactionOf}
use Rattle.script_fit.proofs.TableRows.{rows_of_table, table_of_rows, rows_with, rows_left}
use Rattle.script_fit.proofs.Changed.{rows_updated}
use Rattle.script_fit.proofs.ActOf.{row_fits, changes_fit, transaction_of, transaction_stores}

pub table_there : (widths : List ℕ) (tables : List Table) (t w : ℕ) → AreTables widths tables → nth widths t ≡ Some w → IsTable w (table_at t tables)
table_there [] [] t w a e = absurd (none_is_not e)
table_there [] (x ∷ xs) t w a e = absurd a
table_there (v ∷ vs) [] t w a e = absurd a
table_there (v ∷ vs) (x ∷ xs) zero w a e = subst (λ n. IsTable n x) (some_is e) a.0
table_there (v ∷ vs) (x ∷ xs) (suc t) w a e = table_there vs xs t w a.1 e

pub tables_with : (widths : List ℕ) (tables : List Table) (t w : ℕ) (table : Table) → AreTables widths tables → nth widths t ≡ Some w → IsTable w table
    → AreTables widths (with_nth t table tables)
tables_with [] [] t w table a e h = a
tables_with [] (x ∷ xs) t w table a e h = absurd a
tables_with (v ∷ vs) [] t w table a e h = absurd a
tables_with (v ∷ vs) (x ∷ xs) zero w table a e h = (subst (λ n. IsTable n table) (sym (some_is e)) h, a.1)
tables_with (v ∷ vs) (x ∷ xs) (suc t) w table a e h = (a.0, tables_with vs xs t w table a.1 e h)

-- what a statement leaves
abbrev Leaves : List ℕ → Option (List Table × Datum) → Type 0
Leaves widths None = Unit {0}
Leaves widths (Some r) = AreTables widths r.0

inserted : (widths : List ℕ) (tables : List Table) (t : ℕ) (o : Option Table) → ((rows : Table) → o ≡ Some rows → AreTables widths (with_nth t rows tables))
    → Leaves widths (option_map (λ rows. (with_nth t rows tables, null)) o)
inserted widths tables t None h = tt
inserted widths tables t (Some rows) h = h rows refl

counted : (widths : List ℕ) (tables : List Table) (b : Bool) → AreTables widths tables → Leaves widths (cond b (Some (tables, null)) None)
counted widths tables true a = a
counted widths tables false a = tt

after_one : (widths : List ℕ) (s : Statement) (tables : List Table) → AreTables widths tables → IsStatementOf widths s → AreWithinLimits (stored_by s)
    → Leaves widths (after_statement s tables)
after_one widths (Insert t row) tables a f l =
    let old = table_there widths tables t f.0 a f.1 in
    let r = row_fits f.0 row f.2 l in
    inserted widths tables t (with_row row (table_at t tables)) (λ rows e.
    tables_with widths tables t f.0 rows a f.1 (table_of_rows f.0 rows (rows_with f.0 row (table_at t tables) rows r (rows_of_table f.0 (table_at t tables) old) e)))
after_one widths (Select t columns tests) tables a f l = a
after_one widths (Update t changes tests) tables a f l =
    let old = rows_of_table f.0 (table_at t tables) (table_there widths tables t f.0 a f.1) in
    let c = changes_fit f.0 changes f.2.1 l in
    tables_with widths tables t f.0 _ a f.1 (table_of_rows f.0 _ (rows_updated f.0 changes tests c (table_at t tables) old))
after_one widths (Delete t tests) tables a f l =
    let old = rows_of_table f.0 (table_at t tables) (table_there widths tables t f.0 a f.1) in
    tables_with widths tables t f.0 _ a f.1 (table_of_rows f.0 _ (rows_left f.0 tests (table_at t tables) old))
after_one widths (Expect n t tests) tables a f l = counted widths tables (int_eq n (row_count tests (table_at t tables))) a

-- what statements leave
abbrev pub LeavesAll : List ℕ → Option (List Table × List Datum) → Type 0
LeavesAll widths None = Unit {0}
LeavesAll widths (Some r) = AreTables widths r.0

went_on : (widths : List ℕ) (d : Datum) (o : Option (List Table × List Datum)) → LeavesAll widths o
    → LeavesAll widths (option_map (λ rest. (rest.0, d ∷ rest.1)) o)
went_on widths d None h = tt
went_on widths d (Some r) h = h

pub all_stored : (widths : List ℕ) (ss : List Statement) (tables : List Table) → AreTables widths tables → IsTransactionOf widths ss → StoreWithinLimits ss
    → LeavesAll widths (after_statements ss tables)
all_stored widths [] tables a f l = a
all_stored widths (s ∷ ss) tables a f l = by (after_statement s tables) (after_one widths s tables a f.0 l.0) (λ ts b. all_stored widths ss ts b f.1 l.1)
  where
    by : (o : Option (List Table × Datum)) → Leaves widths o → ((ts : List Table) → AreTables widths ts → LeavesAll widths (after_statements ss ts))
        → LeavesAll widths (option_and_then (λ r. option_map (λ rest. (rest.0, r.1 ∷ rest.1)) (after_statements ss r.0)) o)
    by None h more = tt
    by (Some r) h more = went_on widths r.1 (after_statements ss r.0) (more r.0 h)

pub after_all : (widths : List ℕ) (ss : List Statement) (tables : List Table) → AreTables widths tables
    → FitStatements widths ss → LeavesAll widths (after_statements ss tables)
after_all widths ss tables a f = all_stored widths ss tables a (transaction_of widths ss f) (transaction_stores widths ss f)

ended : (widths : List ℕ) (tables : List Table) (o : Option (List Table × List Datum)) → AreTables widths tables → LeavesAll widths o
    → AreTables widths (option_map_or {U = List Table × Datum} (λ r. (r.0, list (data_of r.1))) o (tables, null)).0
ended widths tables None a h = a
ended widths tables (Some r) a h = h

pub stored : (widths : List ℕ) (ss : List Statement) (tables : List Table) → AreTables widths tables → IsTransactionOf widths ss → StoreWithinLimits ss
    → AreTables widths (after_transaction ss tables).0
stored widths ss tables a f l = ended widths tables (after_statements ss tables) a (all_stored widths ss tables a f l)

pub transacted : (widths : List ℕ) (ss : List Statement) (tables : List Table) → AreTables widths tables → FitsTransaction widths ss
    → AreTables widths (after_transaction ss tables).0
transacted widths ss tables a f = stored widths ss tables a (transaction_of widths ss f.1) (transaction_stores widths ss f.1)
