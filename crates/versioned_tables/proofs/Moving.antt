-- A transaction that is run on the rows that it may look at.
use Rattle.std.proofs.Common.{◌≡◌, ◌∙◌, ℕ, zero, suc, ◌+◌, ◌≤◌, nat_le, nat_lt, nat_eq, ltb-true, ltb-false, unwrap_or, Bool, true, false, not, ◌&&◌, ◌||◌, cond, List, [], ◌∷◌, length, filter, Option, Some, None, refl, sym, ap, subst, arith}
use Rattle.std.specs.Prelude.{slice_index_or}
use Rattle.std.specs.BTreeMap.{is_at}
use Rattle.std.specs.Cmp.Lexicographic.{slice_cmp}
use Rattle.std.specs.Map.{lookup}
use Rattle.std.specs.Option.{is_some}
use Rattle.std.specs.Ordering.{nat_cmp, is_eq, ordering_reverse}
use Rattle.std.specs.Str.{bytes_eq}
use Rattle.std.specs.declared.cmp.Ordering.{Ordering}
use Rattle.std.specs.declared.cmp.Ordering.TheVariants.{Less, Equal, Greater}
use Rattle.std.proofs.lemmas.Bool.{leb-true}
use Rattle.std.proofs.lemmas.Cmp.{tied_itself, alike_right}
use Rattle.std.proofs.lemmas.Map.Text.{is_eq-slice_cmp}
use Rattle.basis.specs.Lists.{nth}
use Rattle.basis.proofs.Options.{some_is, none_is_not}
use Rattle.script_tree.specs.Datum.{Datum, text}
use Rattle.script_tree.specs.Fit.{AreTables}
use Rattle.script_tree.specs.Order.{compare}
use Rattle.script_tree.specs.OrderLaws.{compare_total}
use Rattle.script_tree.specs.Transactions.{Row, Table, key, meets, meeting_rows, table_at, after_transaction}
use Rattle.script_tree.specs.declared.transaction.Test.{Test}
use Rattle.script_tree.specs.declared.transaction.Statement.{Statement}
use Rattle.script_tree.specs.declared.transaction.Statement.TheVariants.{Insert, Select, Update, Delete, Expect}
use Rattle.script_fit.specs.FitsTransaction.{FitsStatement, FitStatements, FitsTransaction}
use Rattle.script_fit.proofs.TableRows.{IsBelow, AreRows}
use Rattle.script_fit.specs.TransactionOf.{IsTransactionOf}
use Rattle.script_fit.proofs.ActOf.{transaction_fits}
use Rattle.script_fit.proofs.Transacted.{transacted}
use Rattle.object_tables.specs.Keys.{is_key, row_at}
use Rattle.object_tables.specs.TableSets.{TableSet}
use Rattle.object_tables.specs.Slots.{AreRunnable}
use Rattle.object_tables.proofs.Keeping.{all_run}
use Rattle.versioned_cells.specs.Versions.{VersionsByKey, as_of, held_at, history_at}
use Rattle.versioned_cells.proofs.HistoryFacts.{stands_on}
use Rattle.versioned_tables.specs.Parts.{kept, outside, others, IsByKey, Spares, AllSpare, IsAlike}
use Rattle.versioned_tables.specs.Standing.{RowsOverTime, row_then, IsStanding, AreFrom, Keys, is_among, is_in, has_history, Finds, Reaches, AllReached, IsPartAt, NotesRows, Advances, IsAnswerAt}
use Rattle.versioned_tables.proofs.Alike.{kept_at, part_answers}
use Rattle.versioned_tables.proofs.Noting.{beyond, from_later}
use Rattle.versioned_tables.proofs.PartRows.{rows_there}

-- ---- rows of one key

-- rows of one key are both among some keys, or none is
pub by_key : (keys : Keys) → IsByKey (is_among keys)
by_key [] t a b e = refl
by_key (x ∷ keys) t a b e =
    ap (λ c. (nat_eq x.0 t && is_eq c) || is_among keys t a) (alike_right compare_total (key a) (key b) (text x.1) e)
    ∙ ap (λ c. (nat_eq x.0 t && is_key x.1 b) || c) (by_key keys t a b e)

-- a row of this key is among them where the key is
pub among_in : (keys : Keys) (t : ℕ) (k : List ℕ) (row : Row) → compare (text k) (key row) ≡ Equal → is_among keys t row ≡ is_in keys t k
among_in [] t k row e = refl
among_in (x ∷ keys) t k row e =
    ap (λ c. (nat_eq x.0 t && is_eq c) || is_among keys t row) (sym (alike_right compare_total (text k) (key row) (text x.1) e))
    ∙ ap (λ c. (nat_eq x.0 t && c) || is_among keys t row) (is_eq-slice_cmp x.1 k) ∙ ap (λ c. (nat_eq x.0 t && bytes_eq x.1 k) || c) (among_in keys t k row e)

equal_of : (o : Ordering) → is_eq o ≡ true → o ≡ Equal
equal_of Less e = cc
equal_of Equal e = refl
equal_of Greater e = cc

row_kept : (p : Row → Bool) (k : List ℕ) → ((row : Row) → is_key k row ≡ true → p row ≡ true) → (xs : Table) → row_at k (filter p xs) ≡ row_at k xs
row_kept p k h [] = refl
row_kept p k h (x ∷ xs) = at (is_key k x) refl (p x) refl (row_kept p k h xs) where
  at : (b : Bool) → is_key k x ≡ b → (c : Bool) → p x ≡ c → row_at k (filter p xs) ≡ row_at k xs → row_at k (filter p (x ∷ xs)) ≡ row_at k (x ∷ xs)
  at true f true g ih = rw g (rw f refl)
  at true f false g ih = absurd (let s = h x f in cc)
  at false f true g ih = rw g (rw f ih)
  at false f false g ih = rw g (rw f ih)

-- the row of a key in the part, and of another one outside
pub in_part : (keys : Keys) (t : ℕ) (k : List ℕ) (tables : List Table) → is_in keys t k ≡ true
    → row_at k (table_at t (kept (is_among keys) tables)) ≡ row_at k (table_at t tables)
in_part keys t k tables e =
    ap (row_at k) (kept_at (is_among keys) t tables)
    ∙ row_kept (is_among keys t) k (λ row h. among_in keys t k row (equal_of (compare (text k) (key row)) h) ∙ e) (table_at t tables)

pub out_of_part : (keys : Keys) (t : ℕ) (k : List ℕ) (tables : List Table) → is_in keys t k ≡ false
    → row_at k (table_at t (others (is_among keys) tables)) ≡ row_at k (table_at t tables)
out_of_part keys t k tables e =
    ap (row_at k) (kept_at (outside (is_among keys)) t tables)
    ∙ row_kept (outside (is_among keys) t) k (λ row h. ap not (among_in keys t k row (equal_of (compare (text k) (key row)) h) ∙ e)) (table_at t tables)

-- ---- what a statement looks at

below_nth : (d : Datum) (xs : Table) (i : ℕ) (row : Row) → IsBelow d xs → nth xs i ≡ Some row → compare d (key row) ≡ Less
below_nth d [] i row b e = absurd (none_is_not e)
below_nth d (x ∷ xs) zero row b e = subst (λ r. compare d (key r) ≡ Less) (some_is e) b.0
below_nth d (x ∷ xs) (suc i) row b e = below_nth d xs i row b.1 e

own_row : (w : ℕ) (xs : Table) (i : ℕ) (row : Row) (k : List ℕ) → AreRows w xs → nth xs i ≡ Some row → key row ≡ text k → row_at k xs ≡ Some row
own_row w [] i row k t e f = absurd (none_is_not e)
own_row w (x ∷ xs) zero row k t e f =
    let same : is_key k x ≡ true = ap is_eq (ap (λ r. compare (text k) (key r)) (some_is e) ∙ ap (compare (text k)) f ∙ tied_itself compare_total (text k)) in
    rw same e
own_row w (x ∷ xs) (suc i) row k t e f =
    let less : compare (key x) (text k) ≡ Less = ap (compare (key x)) (sym f) ∙ below_nth (key x) xs i row t.1 e in
    let other : is_key k x ≡ false = ap is_eq (compare_total.antisymm (text k) (key x) ∙ ap ordering_reverse less) in
    rw other (own_row w xs i row k t.2 e f)

key_text : (w : ℕ) (xs : Table) (i : ℕ) (row : Row) → AreRows w xs → nth xs i ≡ Some row → (k : List ℕ) × (key row ≡ text k)
key_text w [] i row t e = absurd (none_is_not e)
key_text w (x ∷ xs) zero row t e = (t.0.key.0, ap key (sym (some_is e)) ∙ t.0.key.1)
key_text w (x ∷ xs) (suc i) row t e = key_text w xs i row t.2 e

none_meets : (m p : Row → Bool) (xs : Table)
    → ((i : ℕ) (row : Row) → nth xs i ≡ Some row → m row ≡ true → p row ≡ true)
    → filter m (filter (λ r. not (p r)) xs) ≡ []
none_meets m p [] h = refl
none_meets m p (x ∷ xs) h = at (p x) refl (m x) refl (none_meets m p xs (λ i row e f. h (suc i) row e f)) where
  at : (b : Bool) → p x ≡ b → (c : Bool) → m x ≡ c → filter m (filter (λ r. not (p r)) xs) ≡ [] → filter m (filter (λ r. not (p r)) (x ∷ xs)) ≡ []
  at true e c f ih = rw e ih
  at false e true f ih = absurd (let s = h 0 x refl f in cc)
  at false e false f ih = rw e (rw f ih)

-- where something stands, there is a history
stood : (p : ℕ) (k : List ℕ) (row : Row) (es : VersionsByKey Row) → held_at p es k ≡ Some row → has_history k es ≡ true
stood p k row es e = by (lookup (is_at (slice_cmp nat_cmp k)) es) e where
  by : (o : Option (List (ℕ × Option Row))) → as_of p None (unwrap_or o []) ≡ Some row → is_some o ≡ true
  by None f = absurd (none_is_not f)
  by (Some vs) f = refl

found : (p : ℕ) (hs : RowsOverTime) (keys : Keys) (widths : List ℕ) (tables : List Table) (t : ℕ) (tests : List Test)
    → AreTables widths tables → IsStanding p hs tables
    → Finds keys t tests (slice_index_or hs t []) → meeting_rows tests (table_at t (others (is_among keys) tables)) ≡ []
found p hs keys widths tables t tests fit standing finds =
    ap (meeting_rows tests) (kept_at (outside (is_among keys)) t tables)
    ∙ none_meets (meets tests) (is_among keys t) (table_at t tables) (λ i row e m.
    let are = rows_there widths tables t fit in
    let k = key_text are.0 (table_at t tables) i row are.1 e in
    let here = standing t k.0 ∙ own_row are.0 (table_at t tables) i row k.0 are.1 e k.1 in
    among_in keys t k.0 row (ap (compare (text k.0)) k.1 ∙ tied_itself compare_total (text k.0))
    ∙ finds row k.0 k.1 m (stood p k.0 row (slice_index_or hs t []) here))

spares : (p : ℕ) (hs : RowsOverTime) (keys : Keys) (widths : List ℕ) (tables : List Table) (s : Statement)
    → AreTables widths tables → IsStanding p hs tables → FitsStatement widths s
    → Reaches hs keys s → Spares (is_among keys) (others (is_among keys) tables) s
spares p hs keys widths tables (Insert t row) fit standing f r =
    let k = f.2.key in
    among_in keys t k.0 row (ap (compare (text k.0)) k.1 ∙ tied_itself compare_total (text k.0)) ∙ r k.0 k.1
spares p hs keys widths tables (Select t columns tests) fit standing f r = found p hs keys widths tables t tests fit standing r
spares p hs keys widths tables (Update t changes tests) fit standing f r = found p hs keys widths tables t tests fit standing r
spares p hs keys widths tables (Delete t tests) fit standing f r = found p hs keys widths tables t tests fit standing r
spares p hs keys widths tables (Expect n t tests) fit standing f r = found p hs keys widths tables t tests fit standing r

all_spare : (p : ℕ) (hs : RowsOverTime) (keys : Keys) (widths : List ℕ) (tables : List Table) (ss : List Statement)
    → AreTables widths tables → IsStanding p hs tables → FitStatements widths ss
    → AllReached hs keys ss → AllSpare (is_among keys) (others (is_among keys) tables) ss
all_spare p hs keys widths tables [] fit standing f r = tt
all_spare p hs keys widths tables (s ∷ ss) fit standing f r =
    (spares p hs keys widths tables s fit standing f.0 r.0, all_spare p hs keys widths tables ss fit standing f.1 r.1)

pub alike : (p : ℕ) (hs : RowsOverTime) (keys : Keys) (widths : List ℕ) (tables : List Table) (ss : List Statement)
    → AreTables widths tables → IsStanding p hs tables → FitsTransaction widths ss
    → AllReached hs keys ss → IsAlike (is_among keys) ss tables
alike p hs keys widths tables ss fit standing f r =
    part_answers (is_among keys) widths tables ss (by_key keys) fit f
    (all_spare p hs keys widths tables ss fit standing f.1 r)

-- ---- its answer

pub answers : (p : ℕ) (hs : RowsOverTime) (keys : Keys) (widths : List ℕ) (ss : List Statement) (part : TableSet)
    (new : List Table) (d : Datum) → FitsTransaction widths ss → AllReached hs keys ss
    → IsPartAt p hs keys widths part → after_transaction ss part.tables ≡ (new, d) → IsAnswerAt widths p hs ss d
answers p hs keys widths ss part new d f r part_at e tables fit standing =
    sym (ap (λ (q : List Table × Datum). q.1) e)
    ∙ ap (λ ts. (after_transaction ss ts).1) (part_at.rows tables fit standing)
    ∙ (alike p hs keys widths tables ss fit standing f r).answer

-- ---- what it leaves

-- each row of what it makes of the whole is that of what it makes of the part, or stands as before
left_row : (p : ℕ) (hs : RowsOverTime) (keys : Keys) (widths : List ℕ) (tables : List Table) (ss : List Statement)
    → IsAlike (is_among keys) ss tables → (t : ℕ) (k : List ℕ)
    → row_at k (table_at t (after_transaction ss tables).0)
    ≡ cond (is_in keys t k) (row_at k (table_at t (after_transaction ss (kept (is_among keys) tables)).0)) (row_at k (table_at t tables))
left_row p hs keys widths tables ss a t k = by (is_in keys t k) refl where
  by : (b : Bool) → is_in keys t k ≡ b → row_at k (table_at t (after_transaction ss tables).0)
      ≡ cond b (row_at k (table_at t (after_transaction ss (kept (is_among keys) tables)).0))
      (row_at k (table_at t tables))
  by true e = sym (in_part keys t k (after_transaction ss tables).0 e) ∙ ap (λ ts. row_at k (table_at t ts)) (sym a.part)
  by false e = sym (out_of_part keys t k (after_transaction ss tables).0 e) ∙ ap (λ ts. row_at k (table_at t ts)) a.rest ∙ out_of_part keys t k tables e

none_past : (widths : List ℕ) (tables : List Table) (t : ℕ) → AreTables widths tables → length widths ≤ t → table_at t tables ≡ []
none_past [] [] t a h = refl
none_past [] (x ∷ xs) t a h = absurd a
none_past (w ∷ ws) [] t a h = absurd a
none_past (w ∷ ws) (x ∷ xs) zero a h = absurd (omega arith)
none_past (w ∷ ws) (x ∷ xs) (suc t) a h = none_past ws xs t a.1 (omega arith)

pub later : (p q : ℕ) (hs : RowsOverTime) (t : ℕ) (k : List ℕ) → AreFrom p hs → p ≤ q → row_then q hs t k ≡ row_then p hs t k
later p q hs t k from l = stands_on p q None (history_at k (slice_index_or hs t [])) l (from t k)

row_past : (p : ℕ) (hs : RowsOverTime) (t : ℕ) (k : List ℕ) → length hs ≤ t → row_then p hs t k ≡ None
row_past p hs t k h = ap (λ es. held_at p es k) (beyond hs t h)

pub committed : (widths : List ℕ) (p : ℕ) (ss : List Statement) (keys : Keys) (part : TableSet) (left : List Table)
    (d : Datum) (old new : RowsOverTime) → length old ≡ length widths → FitsTransaction widths ss
    → AreFrom p old → AllReached old keys ss → IsPartAt p old keys widths part
    → after_transaction ss part.tables ≡ (left, d) → NotesRows (p + 1) keys left old new
    → Advances widths p ss old new
committed widths p ss keys part left d old new count f from r part_at e n = record {
  before = λ q t k h. unless q t k h (nat_lt t (length old)) refl;
  after = λ tables fit standing q h t k. within tables fit standing q h t k (nat_lt t (length old)) refl;
  until = n.until;
  count = n.count;
  changes = n.changes;
} where
  unless : (q t : ℕ) (k : List ℕ) → nat_le (p + 1) q ≡ false → (b : Bool) → nat_lt t (length old) ≡ b → row_then q new t k ≡ row_then q old t k
  unless q t k h true l = n.rows q t k (ltb-true t (length old) l) ∙ ap (λ b. cond (b && is_in keys t k) (row_at k (table_at t left)) (row_then q old t k)) h
  unless q t k h false l =
      let past : length old ≤ t = ltb-false t (length old) l in
      row_past q new t k (omega (arith, n.count)) ∙ sym (row_past q old t k past)

  within : (tables : List Table) → AreTables widths tables → IsStanding p old tables → (q : ℕ)
      → nat_le (p + 1) q ≡ true → (t : ℕ) (k : List ℕ) → (b : Bool) → nat_lt t (length old) ≡ b
      → row_then q new t k ≡ row_at k (table_at t (after_transaction ss tables).0)
  within tables fit standing q h t k true l =
      let a = alike p old keys widths tables ss fit standing f r in
      let made : (after_transaction ss (kept (is_among keys) tables)).0 ≡ left = ap (λ ts. (after_transaction ss ts).0) (sym (part_at.rows tables fit standing)) ∙ ap (λ (x : List Table × Datum). x.0) e in
      let up : p + 1 ≤ q = leb-true (p + 1) q h in
      n.rows q t k (ltb-true t (length old) l) ∙ ap (λ b. cond (b && is_in keys t k) (row_at k (table_at t left)) (row_then q old t k)) h
      ∙ ap (λ o. cond (is_in keys t k) (row_at k (table_at t left)) o) (later p q old t k from (omega arith) ∙ standing t k)
      ∙ ap (λ ts. cond (is_in keys t k) (row_at k (table_at t ts)) (row_at k (table_at t tables))) (sym made)
      ∙ sym (left_row p old keys widths tables ss a t k)
  within tables fit standing q h t k false l =
      let past : length old ≤ t = ltb-false t (length old) l in
      row_past q new t k (omega (arith, n.count)) ∙ ap (row_at k) (sym (none_past widths (after_transaction ss tables).0 t (transacted widths ss tables fit f) (omega (arith, count, past))))

pub aborted : (widths : List ℕ) (p : ℕ) (ss : List Statement) (keys : Keys) (part : TableSet) (left : List Table)
    (d : Datum) (hs : RowsOverTime) → FitsTransaction widths ss
    → AreFrom p hs → AllReached hs keys ss → IsPartAt p hs keys widths part
    → after_transaction ss part.tables ≡ (left, d) → left ≡ part.tables → Advances widths p ss hs hs
aborted widths p ss keys part left d hs f from r part_at e same = record {
  before = λ q t k h. refl;
  after = λ tables fit standing q h t k.
      let a = alike p hs keys widths tables ss fit standing f r in
      let up : p + 1 ≤ q = leb-true (p + 1) q h in
      let is = part_at.rows tables fit standing in
      let made : (after_transaction ss (kept (is_among keys) tables)).0 ≡ kept (is_among keys) tables = ap (λ ts. (after_transaction ss ts).0) (sym is) ∙ ap (λ (x : List Table × Datum). x.0) e ∙ same ∙ is in
      later p q hs t k from (omega arith) ∙ standing t k ∙ both tables t k (is_in keys t k) refl
      ∙ ap (λ ts. cond (is_in keys t k) (row_at k (table_at t ts)) (row_at k (table_at t tables))) (sym made) ∙ sym (left_row p hs keys widths tables ss a t k);
  until = from_later p (p + 1) hs (omega arith) from;
  count = refl;
  changes = λ c. c;
} where
  both : (tables : List Table) (t : ℕ) (k : List ℕ) (b : Bool) → is_in keys t k ≡ b
      → row_at k (table_at t tables) ≡ cond b (row_at k (table_at t (kept (is_among keys) tables))) (row_at k (table_at t tables))
  both tables t k true g = sym (in_part keys t k tables g)
  both tables t k false g = refl

-- ---- for the calls

pub runs : (widths : List ℕ) (n : ℕ) (ss own : List Statement) → FitsTransaction widths ss → n ≡ length widths → own ≡ ss → AreRunnable n own
runs widths n ss own f e same = rw (e, same) (all_run widths ss (transaction_fits widths ss f))

-- what fits is asked of a part too
pub is_of_part : (widths own : List ℕ) (ss : List Statement) → FitsTransaction widths ss → own ≡ widths → IsTransactionOf own ss
is_of_part widths own ss f e = rw e (transaction_fits widths ss f)

pub reached : (hs own : RowsOverTime) (keys : Keys) (ss mine : List Statement) → own ≡ hs → mine ≡ ss → AllReached own keys mine → AllReached hs keys ss
reached hs own keys ss mine e f r = rw (sym e, sym f) r

pub part_is : (p : ℕ) (hs own : RowsOverTime) (keys mine : Keys) (widths : List ℕ) (part : TableSet) → own ≡ hs
    → mine ≡ keys → IsPartAt p own mine widths part → IsPartAt p hs keys widths part
part_is p hs own keys mine widths part e f r = rw (sym e, sym f) r
