-- Transactions that fit keep the tables of their widths.
use Rattle.std.proofs.Common.{◌≡◌, ◌<◌, ℕ, suc, List, [], ◌∷◌, Option, Some, None, Result, Ok, Err, IfOk, OnOk, OnErr, Bool, true, false, length, map, refl, sym, ap, ◌∙◌, subst, arith}
use Rattle.basis.specs.Lists.{with_nth}
use Rattle.basis.proofs.Options.{some_is, none_is_not}
use Rattle.basis.proofs.Places.{nth_within}
use Rattle.script_tree.specs.Datum.{Datum}
use Rattle.script_tree.specs.Fit.{AreTables}
use Rattle.script_tree.specs.Transactions.{Row, Table, table_at, with_row, after_statements}
use Rattle.script_tree.specs.declared.transaction.Change.{Change}
use Rattle.script_tree.specs.declared.transaction.Statement.{Statement}
use Rattle.script_tree.specs.declared.transaction.Statement.TheVariants.{Insert, Select, Update, Delete, Expect}
use Rattle.script_fit.specs.FitsTransaction.{FitsRow}
use Rattle.script_fit.specs.StoredLimits.{StoreWithinLimits}
use Rattle.script_fit.specs.TransactionOf.{AreChangesOf, IsStatementOf, IsTransactionOf}
use Rattle.object_tables.specs.Answered.{ComesTo}
use Rattle.object_tables.specs.TransactionEnds.{IsTransactionEnd, IsInserted, with_row_at}
use Rattle.object_tables.specs.declared.tables.Answered.{Answered}
use Rattle.object_tables.specs.declared.tables.TransactionEnd.{TransactionEnd}
use Rattle.object_tables.specs.declared.tables.TransactionEnd.TheVariants.{Committed, Aborted}
use Rattle.object_tables.specs.Slots.{Slots, IsText, KeepKeys, IsRunnable, AreRunnable, rows_of}
use Rattle.script_fit.proofs.TableRows.{rows_of_table, table_of_rows, rows_with}
use Rattle.script_fit.proofs.Transacted.{table_there, tables_with, LeavesAll, all_stored}

pub as_many : (widths : List ℕ) (tables : List Table) → AreTables widths tables → length widths ≡ length tables
as_many [] [] h = refl
as_many [] (x ∷ tables) h = absurd h
as_many (w ∷ widths) [] h = absurd h
as_many (w ∷ widths) (x ∷ tables) h = ap suc (as_many widths tables h.1)

pub fit_empty : (widths : List ℕ) → AreTables widths (map (λ width. []) widths)
fit_empty [] = tt
fit_empty (w ∷ widths) = (table_of_rows w [] tt, fit_empty widths)

-- ---- statements

pub statements_kept : (widths : List ℕ) (ss : List Statement) (tables us : List Table) (answers : List Datum)
    → IsTransactionOf widths ss → StoreWithinLimits ss → AreTables widths tables
    → after_statements ss tables ≡ Some (us, answers) → AreTables widths us
statements_kept widths ss tables us answers f l h e = subst (LeavesAll widths) e (all_stored widths ss tables h f l)

-- ---- what running takes

keep_keys : (width : ℕ) (changes : List Change) → AreChangesOf width changes → KeepKeys changes
keep_keys width [] f = tt
keep_keys width (c ∷ cs) f = (f.0, keep_keys width cs f.2)

runs : (widths : List ℕ) (s : Statement) → IsStatementOf widths s → IsRunnable (length widths) s
runs widths (Insert t row) f = (nth_within widths t f.0 f.1, subst IsText (sym f.2.key.1) tt)
runs widths (Select t columns tests) f = nth_within widths t f.0 f.1
runs widths (Update t changes tests) f = (nth_within widths t f.0 f.1, keep_keys f.0 changes f.2.1)
runs widths (Delete t tests) f = nth_within widths t f.0 f.1
runs widths (Expect n t tests) f = nth_within widths t f.0 f.1

pub all_run : (widths : List ℕ) (ss : List Statement) → IsTransactionOf widths ss → AreRunnable (length widths) ss
all_run widths [] f = tt
all_run widths (s ∷ ss) f = (runs widths s f.0, all_run widths ss f.1)

rows_each : (ts : List Slots) → length (map rows_of ts) ≡ length ts
rows_each [] = refl
rows_each (es ∷ ts) = ap suc (rows_each ts)

pub can_run : (widths : List ℕ) (ts : List Slots) (ss : List Statement) (n : ℕ) → AreTables widths (map rows_of ts) → IsTransactionOf widths ss → n ≡ length ts
    → AreRunnable n ss
can_run widths ts ss n h f e = rw (e ∙ sym (rows_each ts) ∙ sym (as_many widths (map rows_of ts) h)) (all_run widths ss f)

end_kept : (widths : List ℕ) (ss : List Statement) (old new : List Table) (o : TransactionEnd)
    → IsTransactionOf widths ss → StoreWithinLimits ss → AreTables widths old → IsTransactionEnd ss old new o
    → AreTables widths new
end_kept widths ss old new (Committed answers) f l h e = statements_kept widths ss old new _ f l h e
end_kept widths ss old new (Aborted i) f l h e = subst (AreTables widths) (sym e.1) h

pub result_kept : {E : Type 0} (widths : List ℕ) (ss : List Statement) (old new : List Slots) (count : ℕ)
    (r : Result Answered E) → IsTransactionOf widths ss → StoreWithinLimits ss
    → AreTables widths (map rows_of old) → IfOk r (ComesTo count ss (map rows_of old) (map rows_of new))
    → OnErr r (new ≡ old) → AreTables widths (map rows_of new)
result_kept widths ss old new count (Ok a) f l h d e = end_kept widths ss (map rows_of old) (map rows_of new) a.outcome f l h d.outcome
result_kept widths ss old new count (Err x) f l h d e = rw e h

pub on_ok : {A E P : Type 0} (r : Result A E) → P → OnOk r P
on_ok (Ok a) p = p
on_ok (Err x) p = tt

-- ---- one table's rows, and one row more

pub tables_each : (widths seen : List ℕ) (ts : List Slots) (t n : ℕ) → widths ≡ seen
    → AreTables widths (map rows_of ts) → t < length seen → n ≡ length ts → t < n
tables_each widths seen ts t n w h l e =
    let a : length widths ≡ length (map rows_of ts) = as_many widths (map rows_of ts) h in
    let b : length widths ≡ length seen = ap length w in
    let c : length (map rows_of ts) ≡ length ts = rows_each ts in
    omega arith

pub place_of : (widths : List ℕ) (t : ℕ) (row : Row) → FitsRow widths t row → t < length widths
place_of widths t row f = nth_within widths t f.0 f.1

pub row_inserted : (widths : List ℕ) (t : ℕ) (row : Row) (old new : List Table) → FitsRow widths t row
    → AreTables widths old → with_row_at t row old ≡ Some new → AreTables widths new
row_inserted widths t row old new f h e = by (with_row row (table_at t old)) refl
  where
    by : (o : Option Table) → with_row row (table_at t old) ≡ o → AreTables widths new
    by None p = let g : ◌≡◌ {A = Option (List Table)} None (Some new) = rw p at e in absurd (none_is_not g)
    by (Some rows) p =
        let g : Some (with_nth t rows old) ≡ Some new = rw p at e in
        let there = rows_of_table f.0 (table_at t old) (table_there widths old t f.0 h f.1) in
        subst (AreTables widths) (some_is g) (tables_with widths old t f.0 rows h f.1
        (table_of_rows f.0 rows (rows_with f.0 row (table_at t old) rows f.2 there p)))

pub row_kept : {E : Type 0} (widths : List ℕ) (t : ℕ) (row : Row) (old new : List Slots) (r : Result Bool E)
    → FitsRow widths t row → AreTables widths (map rows_of old)
    → IfOk r (IsInserted t row (map rows_of old) (map rows_of new)) → OnErr r (new ≡ old) → AreTables widths (map rows_of new)
row_kept widths t row old new (Ok true) f h d e = row_inserted widths t row (map rows_of old) (map rows_of new) f h d
row_kept widths t row old new (Ok false) f h d e = rw d.1 h
row_kept widths t row old new (Err x) f h d e = rw e h
