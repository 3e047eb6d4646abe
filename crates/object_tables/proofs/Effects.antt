-- What the statements make of all tables.
use Rattle.std.proofs.Common.{◌≡◌, ℤ, ◌<◌, ℕ, zero, suc, List, [], ◌∷◌, ◌++◌, Some, None, Bool, true, false, pos, length, get_or, set, map, refl, ap, ◌∙◌, arith}
use Rattle.std.specs.Option.{option_map}
use Rattle.std.specs.Map.{keys_of}
use Rattle.std.specs.List.Sorted.{IsStrictlySortedBy}
use Rattle.std.proofs.lemmas.Map.Lookups.{exact_bytes}
use Rattle.script_tree.specs.Datum.{text, number}
use Rattle.basis.specs.Lists.{with_nth}
use Rattle.script_tree.specs.Transactions.{Row, key, table_at, with_row, changed_row, updated_rows, other_rows, Table, meets, meeting_rows, row_count}
use Rattle.script_tree.specs.declared.transaction.Test.{Test}
use Rattle.script_tree.specs.declared.transaction.Change.{Change}
use Rattle.object_tables.specs.Slots.{Slot, Slots, by_bytes, slot_at, put, replaced, rows_of, has_row, puts_for, put_for, with_puts, KeepKeys}
use Rattle.script_tree.specs.declared.transaction.Statement.TheVariants.{Update, Delete}
use Rattle.object_tables.specs.TransactionEnds.{Runs}
use Rattle.object_tables.specs.UndoLog.{put_at, replaced_at, AllFiled}
use Rattle.object_tables.proofs.Insert.{inserts, filed_put}
use Rattle.object_tables.proofs.Places.{rows_there, rows_set, filed_at, filed_set}
use Rattle.object_tables.proofs.Remade.{makes, rows_updated, filed_updated, rows_left, filed_left, with_puts-push}

-- the table is in order
abbrev pub InOrder : List Slots → ℕ → Type 0
InOrder ts t = IsStrictlySortedBy by_bytes (keys_of (get_or ts t []))

pub insert_refused : (ts : List Slots) (t : ℕ) (row : Row) (k : List ℕ) → key row ≡ text k → InOrder ts t → AllFiled ts
    → has_row (slot_at k (get_or ts t [])) ≡ true
    → option_map (λ rows. with_nth t rows (map rows_of ts)) (with_row row (table_at t (map rows_of ts))) ≡ None
insert_refused ts t row k e o f h = rw (rows_there ts t, inserts row k (get_or ts t []) e o (filed_at ts t f), h) refl

pub insert_done : (ts us : List Slots) (t : ℕ) (row : Row) (k : List ℕ) → key row ≡ text k → InOrder ts t → AllFiled ts
    → has_row (slot_at k (get_or ts t [])) ≡ false → us ≡ put_at t k (Some row) ts
    → option_map (λ rows. with_nth t rows (map rows_of ts)) (with_row row (table_at t (map rows_of ts))) ≡ Some (map rows_of us)
insert_done ts us t row k e o f h u =
    rw (rows_there ts t, inserts row k (get_or ts t []) e o (filed_at ts t f), h, u, rows_set ts t (put k (Some row) (get_or ts t []))) refl

pub insert_filed : (ts us : List Slots) (t : ℕ) (row : Row) (k : List ℕ) → key row ≡ text k → AllFiled ts → us ≡ put_at t k (Some row) ts → AllFiled us
insert_filed ts us t row k e f u =
    rw u (filed_set ts t _ f (filed_put k (Some row) (get_or ts t []) (λ q p. e ∙ ap text (exact_bytes k q p)) e (filed_at ts t f)))

replaced_twice : (ts : List Slots) (t : ℕ) (k : List ℕ) (s : Slot) (ps : Slots) → t < length ts
    → set (replaced_at t k s ts) t (with_puts ps (get_or (replaced_at t k s ts) t [])) ≡ set ts t (with_puts ps (replaced k s (get_or ts t [])))
replaced_twice [] t k s ps h = absurd (omega arith)
replaced_twice (x ∷ ts) zero k s ps h = refl
replaced_twice (x ∷ ts) (suc t) k s ps h = ap (λ ys. x ∷ ys) (replaced_twice ts t k s ps (omega arith))

pub one_replaced : (ts us : List Slots) (t : ℕ) (ps qs : Slots) (k : List ℕ) (s : Slot) → t < length ts → us ≡ replaced_at t k s ts → qs ≡ ps ++ (k, s) ∷ []
    → set us t (with_puts ps (get_or us t [])) ≡ set ts t (with_puts qs (get_or ts t []))
one_replaced ts us t ps qs k s h u q =
    rw (u, q, with_puts-push ps (k, s) (get_or ts t [])) (replaced_twice ts t k s ps h)

update_done : (ts us : List Slots) (t : ℕ) (changes : List Change) (tests : List Test) (ps : Slots) → InOrder ts t
    → ps ≡ puts_for (λ row. Some (changed_row changes row)) tests (get_or ts t []) → us ≡ set ts t (with_puts ps (get_or ts t []))
    → map rows_of us ≡ with_nth t (updated_rows changes tests (table_at t (map rows_of ts))) (map rows_of ts)
update_done ts us t changes tests ps o p u =
    rw (
      u,
      p,
      rows_there ts t,
      rows_set,
      makes (λ row. Some (changed_row changes row)) tests (get_or ts t []) o,
      rows_updated changes tests (get_or ts t []),
    ) refl

pub update_filed : (ts us : List Slots) (t : ℕ) (changes : List Change) (tests : List Test) (ps : Slots) → KeepKeys changes → InOrder ts t → AllFiled ts
    → ps ≡ puts_for (λ row. Some (changed_row changes row)) tests (get_or ts t []) → us ≡ set ts t (with_puts ps (get_or ts t [])) → AllFiled us
update_filed ts us t changes tests ps h o f p u =
    rw (u, p, makes (λ row. Some (changed_row changes row)) tests (get_or ts t []) o)
    (filed_set ts t _ f (filed_updated changes tests (get_or ts t []) h (filed_at ts t f)))

delete_done : (ts us : List Slots) (t : ℕ) (tests : List Test) (ps : Slots) → InOrder ts t
    → ps ≡ puts_for (λ row. None) tests (get_or ts t []) → us ≡ set ts t (with_puts ps (get_or ts t []))
    → map rows_of us ≡ with_nth t (other_rows tests (table_at t (map rows_of ts))) (map rows_of ts)
delete_done ts us t tests ps o p u =
    rw (u, p, rows_there ts t, rows_set, makes (λ row. None) tests (get_or ts t []) o, rows_left) refl

pub delete_filed : (ts us : List Slots) (t : ℕ) (tests : List Test) (ps : Slots) → InOrder ts t → AllFiled ts
    → ps ≡ puts_for (λ row. None) tests (get_or ts t []) → us ≡ set ts t (with_puts ps (get_or ts t [])) → AllFiled us
delete_filed ts us t tests ps o f p u =
    rw (u, p, makes (λ row. None) tests (get_or ts t []) o) (filed_set ts t _ f (filed_left tests (get_or ts t []) (filed_at ts t f)))

-- as many are put as pass
one_counted : (f : Row → Slot) (tests : List Test) (k : List ℕ) (row : Row) (ps : Slots) (rows : Table) → length ps ≡ length (meeting_rows tests rows)
    → length (put_for f tests k (Some row) ps) ≡ length (meeting_rows tests (row ∷ rows))
one_counted f tests k row ps rows h = at (meets tests row) refl
  where
    at : (b : Bool) → meets tests row ≡ b → length (put_for f tests k (Some row) ps) ≡ length (meeting_rows tests (row ∷ rows))
    at true e = rw e (ap suc h)
    at false e = rw e h

all_counted : (f : Row → Slot) (tests : List Test) (es : Slots) → length (puts_for f tests es) ≡ length (meeting_rows tests (rows_of es))
all_counted f tests [] = refl
all_counted f tests ((k, None) ∷ es) = all_counted f tests es
all_counted f tests ((k, Some row) ∷ es) = one_counted f tests k row (puts_for f tests es) (rows_of es) (all_counted f tests es)

counted : (ts : List Slots) (t : ℕ) (f : Row → Slot) (tests : List Test) (ps : Slots) → ps ≡ puts_for f tests (get_or ts t [])
    → pos (length ps) ≡ row_count tests (table_at t (map rows_of ts))
counted ts t f tests ps p = rw (p, rows_there ts t) (ap pos (all_counted f tests (get_or ts t [])))

pub updates : (ts us : List Slots) (t : ℕ) (changes : List Change) (tests : List Test) (ps : Slots) (n : ℤ) → InOrder ts t
    → ps ≡ puts_for (λ row. Some (changed_row changes row)) tests (get_or ts t []) → us ≡ set ts t (with_puts ps (get_or ts t [])) → n ≡ pos (length ps)
    → Runs (Update t changes tests) (map rows_of ts) (map rows_of us) (Some (number n))
updates ts us t changes tests ps n o p u e =
    rw (update_done ts us t changes tests ps o p u, e, counted ts t (λ row. Some (changed_row changes row)) tests ps p) refl

pub deletes : (ts us : List Slots) (t : ℕ) (tests : List Test) (ps : Slots) (n : ℤ) → InOrder ts t
    → ps ≡ puts_for (λ row. None) tests (get_or ts t []) → us ≡ set ts t (with_puts ps (get_or ts t [])) → n ≡ pos (length ps)
    → Runs (Delete t tests) (map rows_of ts) (map rows_of us) (Some (number n))
deletes ts us t tests ps n o p u e = rw (delete_done ts us t tests ps o p u, e, counted ts t (λ row. None) tests ps p) refl
