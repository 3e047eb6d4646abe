-- Tables over time, entry by entry.
use Rattle.std.proofs.Common.{◌≡◌, ◌∙◌, ℕ, zero, suc, ◌+◌, ◌<◌, ◌≤◌, nat_le, Bool, true, false, cond, List, [], ◌∷◌, ◌++◌, length, get_or, take, Option, Some, None, Result, Ok, Err, IfOk, refl, sym, ap, subst, arith, length-append}
use Rattle.std.specs.Option.{is_some}
use Rattle.std.specs.Ordering.{is_eq}
use Rattle.basis.proofs.Options.{none_is_not}
use Rattle.std.specs.Str.{bytes_eq}
use Rattle.std.proofs.lemmas.Bool.{leb-true, leb-false, le-leb}
use Rattle.std.proofs.lemmas.List.{take_all, take_more, take-append-le, length-take-le}
use Rattle.std.proofs.lemmas.Map.Text.{is_eq-slice_cmp}
use Rattle.std.proofs.lemmas.Slice.Eq.{bytes_eq-Decides}
use Rattle.basis.specs.Lists.{or_else, nth}
use Rattle.script_tree.specs.Datum.{Datum, text}
use Rattle.script_tree.specs.Fit.{AreTables, IsTable}
use Rattle.script_tree.specs.Order.{compare}
use Rattle.script_tree.specs.Objects.{Cell, rows, acted}
use Rattle.script_tree.specs.Transactions.{Row, Table, key, table_at, after_transaction}
use Rattle.script_tree.specs.declared.operation.Act.{Act}
use Rattle.script_tree.specs.declared.operation.Act.TheVariants.{Read, Write, Get, Put, Remove, Transact, Now, Roll}
use Rattle.script_tree.specs.declared.operation.Choice.{Choice}
use Rattle.script_tree.specs.declared.transaction.Statement.{Statement}
use Rattle.script_fit.specs.FitsOperation.{FitsTables}
use Rattle.script_fit.specs.FitsTransaction.{FitsTransaction}
use Rattle.script_fit.proofs.TableRows.{AreRows, table_of_rows}
use Rattle.script_fit.proofs.Transacted.{transacted}
use Rattle.period.specs.declared.report.LogEntry.{LogEntry}
use Rattle.object_tables.specs.Keys.{is_key, row_at}
use Rattle.object_tables.specs.TableSets.{TableSet}
use Rattle.object_tables.proofs.Keeping.{as_many}
use Rattle.period.specs.LeftBy.{left_by}
use Rattle.versioned_cells.specs.Versions.{VersionsByKey, as_of, held_at, history_at, AreUntil, AreAllUntil, AreChanges, Notes}
use Rattle.versioned_cells.proofs.HistoryFacts.{notes_at}
use Rattle.versioned_cells.proofs.LogFacts.{left-one, prefix_more}
use Rattle.versioned_tables.specs.Standing.{RowsOverTime, IsStanding, Stands, AreFrom, AllChange, Advances, IsAnswerAt}
use Rattle.versioned_tables.specs.OverTime.{OverTime, over_time, Holds, TellsTables, IsAnswerThen, FitEntries, BeginsTables, BeginsTable, BeginAll, AdvancesBy}
use Rattle.versioned_tables.proofs.PartRows.{rows_there, none_below, equal_of}

-- ---- one entry more

pub transaction : (widths : List ℕ) (a : Act) → FitsTables widths a → (ss : List Statement) × (a ≡ Transact ss)
transaction widths Read f = absurd f
transaction widths (Write d) f = absurd f
transaction widths (Get k) f = absurd f
transaction widths (Put k d) f = absurd f
transaction widths (Remove k) f = absurd f
transaction widths (Transact ss) f = (ss, refl)
transaction widths Now f = absurd f
transaction widths (Roll bound) f = absurd f

acts : (ss : List Statement) (c : Choice) (tables : List Table)
    → acted (Transact ss) c (rows tables) ≡ (rows (after_transaction ss tables).0, (after_transaction ss tables).1)
unfolding acted
acts ss c tables = refl

moved : (widths : List ℕ) (start : Cell) (xs : List LogEntry) (i : ℕ) (e : LogEntry) (ss : List Statement)
    (old new : RowsOverTime) → length xs ≡ i → e.act ≡ Transact ss → FitsTransaction widths ss
    → ((p : ℕ) → Holds (left_by (take p xs) start) p (over_time widths old)) → Advances widths i ss old new → (p : ℕ)
    → Holds (left_by (take p (xs ++ e ∷ [])) start) p (over_time widths new)
moved widths start xs i e ss old new l is f tells adv p = by (nat_le (i + 1) p) refl where
  by : (b : Bool) → nat_le (i + 1) p ≡ b → Holds (left_by (take p (xs ++ e ∷ [])) start) p (over_time widths new)
  by true h =
      let up : i + 1 ≤ p = leb-true (i + 1) p h in
      let t = tells i in
      let all : take p (xs ++ e ∷ []) ≡ xs ++ e ∷ [] = take_all p (xs ++ e ∷ []) (omega (arith, length-append xs (e ∷ []))) in
      let some : take i xs ≡ xs = take_all i xs (omega arith) in
      record {
        tables = (after_transaction ss t.tables).0;
        is = ap (λ es. left_by es start) all ∙ left-one xs e start
            ∙ ap (λ es. (acted e.act e.choice (left_by es start)).0) (sym some)
            ∙ ap (λ cell. (acted e.act e.choice cell).0) t.is
            ∙ ap (λ a. (acted a e.choice (rows t.tables)).0) is ∙ ap (λ (r : Cell × Datum). r.0) (acts ss e.choice t.tables);
        fit = transacted widths ss t.tables t.fit f;
        standing = adv.after t.tables t.fit t.standing p h;
      }
  by false h =
      let down = leb-false (i + 1) p h in
      let t = tells p in
      record {
        tables = t.tables;
        is = ap (λ es. left_by es start) (take-append-le p xs (e ∷ []) (omega arith)) ∙ t.is;
        fit = t.fit;
        standing = λ u k. adv.before p u k h ∙ t.standing u k;
      }

pub tells_more : (widths : List ℕ) (start : TableSet) (entries : List LogEntry) (i : ℕ) (e : LogEntry)
    (old new : RowsOverTime) → i < length entries → e ≡ get_or entries i e → FitsTables widths e.act
    → TellsTables (take i entries) start (over_time widths old) → AdvancesBy widths i e.act old new
    → TellsTables (take (i + 1) entries) start (over_time widths new)
tells_more widths start entries i e old new h is f tells adv =
    let t = transaction widths e.act f in
    record {
      widths = tells.widths;
      holds = λ p. subst (λ es. Holds (left_by (take p es) (rows start.tables)) p (over_time widths new)) (sym (prefix_more entries i e h is))
          (moved widths (rows start.tables) (take i entries) i e t.0 old new
          (length-take-le i entries (omega arith)) t.1 (subst (FitsTables widths) t.1 f) tells.holds
          (subst (λ a. AdvancesBy widths i a old new) t.1 adv) p);
    }

pub from_more : (widths : List ℕ) (i : ℕ) (a : Act) (old new : RowsOverTime) → FitsTables widths a → AdvancesBy widths i a old new → AreFrom (i + 1) new
from_more widths i a old new f adv = let t = transaction widths a f in let d : Advances widths i t.0 old new = subst (λ a. AdvancesBy widths i a old new) t.1 adv in d.until

pub changes_more : (widths : List ℕ) (i : ℕ) (a : Act) (old new : RowsOverTime) → FitsTables widths a
    → AdvancesBy widths i a old new → AllChange old → AllChange new
changes_more widths i a old new f adv = let t = transaction widths a f in let d : Advances widths i t.0 old new = subst (λ a. AdvancesBy widths i a old new) t.1 adv in d.changes

pub count_more : (widths : List ℕ) (i : ℕ) (a : Act) (old new : RowsOverTime) → FitsTables widths a → AdvancesBy widths i a old new → length new ≡ length old
count_more widths i a old new f adv = let t = transaction widths a f in let d : Advances widths i t.0 old new = subst (λ a. AdvancesBy widths i a old new) t.1 adv in d.count

nth_get : {A : Type 0} (xs : List A) (i : ℕ) (x d : A) → i < length xs → x ≡ get_or xs i d → nth xs i ≡ Some x
nth_get [] i x d h is = absurd (omega arith)
nth_get (y ∷ xs) zero x d h is = ap Some (sym is)
nth_get (y ∷ xs) (suc i) x d h is = nth_get xs i x d (omega arith) is

pub entry_fits : (widths : List ℕ) (entries : List LogEntry) (i : ℕ) (e : LogEntry) → FitEntries widths entries
    → i < length entries → e ≡ get_or entries i e → FitsTables widths e.act
entry_fits widths entries i e f h is = f i e (nth_get entries i e e h is)

pub stands_at : (widths : List ℕ) (start : TableSet) (entries : List LogEntry) (p : ℕ) (hs : RowsOverTime)
    → TellsTables entries start (over_time widths hs) → Stands widths p hs
stands_at widths start entries p hs tells = let t = tells.holds p in record { tables = t.tables; fit = t.fit; rows = t.standing }

-- ---- the start

pub tells_none : (widths : List ℕ) (start : TableSet) (hs : RowsOverTime) → widths ≡ start.widths
    → BeginsTables start hs → TellsTables [] start (over_time widths hs)
tells_none widths start hs same b = record {
  widths = same;
  holds = λ p. record { tables = start.tables; is = none p; fit = subst (λ ws. AreTables ws start.tables) (sym same) b.fit; standing = b.rows p };
} where
  none : (p : ℕ) → left_by (take p []) (rows start.tables) ≡ rows start.tables
  none zero = refl
  none (suc p) = refl

begin_one : (tables : List Table) (hs : RowsOverTime) (table : Table) (es : VersionsByKey Row) → BeginAll tables hs
    → BeginsTable table es → BeginAll (tables ++ table ∷ []) (hs ++ es ∷ [])
begin_one [] [] table es a b = (b, tt)
begin_one [] (x ∷ hs) table es a b = absurd a
begin_one (t ∷ ts) [] table es a b = absurd a
begin_one (t ∷ ts) (x ∷ hs) table es a b = (a.0, begin_one ts hs table es a.1 b)

at_place : (tables : List Table) (t : ℕ) → get_or tables t [] ≡ table_at t tables
at_place [] t = refl
at_place (x ∷ xs) zero = refl
at_place (x ∷ xs) (suc t) = at_place xs t

pub begin_more : (tables : List Table) (t : ℕ) (table : Table) (old new : RowsOverTime) (es : VersionsByKey Row)
    → t < length tables → table ≡ table_at t tables → new ≡ old ++ es ∷ []
    → BeginAll (take t tables) old → BeginsTable table es → BeginAll (take (t + 1) tables) new
begin_more tables t table old new es h is more a b =
    let next : take (t + 1) tables ≡ take t tables ++ table ∷ [] = take_more tables t [] h ∙ ap (λ x. take t tables ++ x ∷ []) (at_place tables t ∙ sym is) in
    rw (next, more) (begin_one (take t tables) old table es a b)

rows_begin : (tables : List Table) (hs : RowsOverTime) (p : ℕ) → BeginAll tables hs → IsStanding p hs tables
rows_begin [] [] p a t k = refl
rows_begin [] (x ∷ hs) p a t k = absurd a
rows_begin (y ∷ ts) [] p a t k = absurd a
rows_begin (y ∷ ts) (x ∷ hs) p a zero k = a.0.rows p k
rows_begin (y ∷ ts) (x ∷ hs) p a (suc t) k = rows_begin ts hs p a.1 t k

until_begin : (tables : List Table) (hs : RowsOverTime) → BeginAll tables hs → AreFrom 0 hs
until_begin [] [] a t k = λ i d h. absurd (omega arith)
until_begin [] (x ∷ hs) a t k = absurd a
until_begin (y ∷ ts) [] a t k = absurd a
until_begin (y ∷ ts) (x ∷ hs) a zero k = a.0.until k
until_begin (y ∷ ts) (x ∷ hs) a (suc t) k = until_begin ts hs a.1 t k

changes_begin : (tables : List Table) (hs : RowsOverTime) → BeginAll tables hs → AllChange hs
changes_begin [] [] a t k = tt
changes_begin [] (x ∷ hs) a t k = absurd a
changes_begin (y ∷ ts) [] a t k = absurd a
changes_begin (y ∷ ts) (x ∷ hs) a zero k = a.0.changes k
changes_begin (y ∷ ts) (x ∷ hs) a (suc t) k = changes_begin ts hs a.1 t k

count_begin : (tables : List Table) (hs : RowsOverTime) → BeginAll tables hs → length hs ≡ length tables
count_begin [] [] a = refl
count_begin [] (x ∷ hs) a = absurd a
count_begin (y ∷ ts) [] a = absurd a
count_begin (y ∷ ts) (x ∷ hs) a = ap suc (count_begin ts hs a.1)

pub begin_all : (start : TableSet) (n : ℕ) (hs : RowsOverTime) → AreTables start.widths start.tables
    → length start.widths ≤ n → BeginAll (take n start.tables) hs → BeginsTables start hs
begin_all start n hs fit l a =
    let many = as_many start.widths start.tables fit in
    let all : BeginAll start.tables hs = subst (λ ts. BeginAll ts hs) (take_all n start.tables (omega arith)) a in
    record { rows = λ p. rows_begin start.tables hs p all; until = until_begin start.tables hs all; count = count_begin start.tables hs all ∙ sym many; changes = changes_begin start.tables hs all; fit = fit }

pub table_here : (widths : List ℕ) (tables : List Table) (t : ℕ) (table : Table) → AreTables widths tables
    → table ≡ table_at t tables → (width : ℕ) × IsTable width table
table_here widths tables t table fit is = let r = rows_there widths tables t fit in (r.0, subst (IsTable r.0) (sym is) (table_of_rows r.0 (table_at t tables) r.1))

pub within : (widths : List ℕ) (tables : List Table) (t : ℕ) → AreTables widths tables → t < length widths → t < length tables
within widths tables t fit h = omega (arith, as_many widths tables fit)

-- ---- one table

-- the first of some rows is noted
pub row_more : (w : ℕ) (all : Table) (x copy : Row) (k0 : List ℕ) (rest : Table) (old new : VersionsByKey Row)
    → copy ≡ x → key x ≡ text k0 → AreRows w (x ∷ rest)
    → ((p : ℕ) (k : List ℕ) → or_else (row_at k (x ∷ rest)) (held_at p old k) ≡ row_at k all)
    → Notes 0 k0 (Some copy) old new → (p : ℕ) (k : List ℕ) → or_else (row_at k rest) (held_at p new k) ≡ row_at k all
unfolding or_else
row_more w all x copy k0 rest old new same is are at notes p k =
    ap (or_else (row_at k rest)) (notes_at 0 k0 (Some copy) old new notes p k
    ∙ ap (λ b. cond b (cond (bytes_eq k k0) (Some copy) (held_at p old k)) (held_at p old k))
    (le-leb 0 p (omega arith)))
    ∙ by (bytes_eq k k0) refl ∙ at p k
  where
    tested : is_key k x ≡ bytes_eq k k0
    tested = ap (λ d. is_eq (compare (text k) d)) is ∙ is_eq-slice_cmp k k0

    by : (b : Bool) → bytes_eq k k0 ≡ b → or_else (row_at k rest) (cond b (Some copy) (held_at p old k)) ≡ or_else (row_at k (x ∷ rest)) (held_at p old k)
    by true e =
        let here : is_key k x ≡ true = tested ∙ e in
        rw here (ap (λ o. or_else o (Some copy)) (none_below k (key x) rest (equal_of (compare (text k) (key x)) here) are.1) ∙ ap Some same)
    by false e =
        let here : is_key k x ≡ false = tested ∙ e in
        rw here refl

-- No row that is still to come has a history.
abbrev pub IsFresh : Table → VersionsByKey Row → Type 0
IsFresh rest es = (k : List ℕ) → is_some (row_at k rest) ≡ true → history_at k es ≡ []

abbrev pub RowsChange : VersionsByKey Row → Type 0
RowsChange es = (k : List ℕ) → AreChanges None (history_at k es)

pub is_key_of : (k k0 : List ℕ) (x : Row) → key x ≡ text k0 → is_key k x ≡ bytes_eq k k0
is_key_of k k0 x is = ap (λ d. is_eq (compare (text k) d)) is ∙ is_eq-slice_cmp k k0

pub fresh_more : (w : ℕ) (x copy : Row) (k0 : List ℕ) (rest : Table) (old new : VersionsByKey Row) → key x ≡ text k0
    → AreRows w (x ∷ rest) → IsFresh (x ∷ rest) old
    → Notes 0 k0 (Some copy) old new → IsFresh rest new
fresh_more w x copy k0 rest old new is are fresh notes k h = at (bytes_eq k k0) refl where
  at : (b : Bool) → bytes_eq k k0 ≡ b → history_at k new ≡ []
  at true e =
      let here : is_key k x ≡ true = is_key_of k k0 x is ∙ e in
      let none : row_at k rest ≡ None = none_below k (key x) rest (equal_of (compare (text k) (key x)) here) are.1 in
      absurd (let s = ap is_some none in cc)
  at false e =
      let other : is_key k x ≡ false = is_key_of k k0 x is ∙ e in
      notes k ∙ ap (λ b. cond b (history_at k old ++ (0, Some copy) ∷ []) (history_at k old)) e ∙ fresh k (rw other h)

pub row_changes : (x copy : Row) (k0 : List ℕ) (rest : Table) (old new : VersionsByKey Row) → key x ≡ text k0
    → IsFresh (x ∷ rest) old → Notes 0 k0 (Some copy) old new
    → RowsChange old → RowsChange new
row_changes x copy k0 rest old new is fresh notes c k = subst (AreChanges None) (sym (notes k)) (at (bytes_eq k k0) refl) where
  at : (b : Bool) → bytes_eq k k0 ≡ b → AreChanges None (cond b (history_at k old ++ (0, Some copy) ∷ []) (history_at k old))
  at true e =
      let here : is_key k x ≡ true = is_key_of k k0 x is ∙ e in
      let none : history_at k old ≡ [] = fresh k (rw here refl) in
      subst (λ vs. AreChanges None (vs ++ (0, Some copy) ∷ [])) (sym none) (λ f. none_is_not (sym f), tt)
  at false e = c k

pub fresh_key : (x : Row) (k0 : List ℕ) (rest : Table) (es : VersionsByKey Row) → key x ≡ text k0 → IsFresh (x ∷ rest) es → history_at k0 es ≡ []
fresh_key x k0 rest es is fresh =
    let here : is_key k0 x ≡ true = is_key_of k0 k0 x is ∙ (bytes_eq-Decides k0 k0).1 refl in
    fresh k0 (rw here refl)

pub fresh_none : (all : Table) (es : VersionsByKey Row) → es ≡ [] → IsFresh all es
fresh_none all es none k h = ap (history_at k) none

pub no_changes : (es : VersionsByKey Row) → es ≡ [] → RowsChange es
no_changes es none k = subst (λ x. AreChanges None (history_at k x)) (sym none) tt

pub rows_all : (all rest : Table) (es : VersionsByKey Row) → rest ≡ []
    → ((p : ℕ) (k : List ℕ) → or_else (row_at k rest) (held_at p es k) ≡ row_at k all) → AreAllUntil 0 es
    → RowsChange es
    → BeginsTable all es
unfolding or_else
rows_all all rest es none at until changes = record {
  changes = changes;
  rows = λ p k. ap (λ r. or_else (row_at k r) (held_at p es k)) (sym none) ∙ at p k;
  until = until;
}

-- what begins a table does where its histories are the same under each key
pub begins_alike : (table : Table) (es others : VersionsByKey Row)
    → ((k : List ℕ) → history_at k others ≡ history_at k es) → BeginsTable table es → BeginsTable table others
begins_alike table es others same b = record {
  rows = λ p k. ap (as_of p None) (same k) ∙ b.rows p k;
  until = λ k. subst (AreUntil 0) (sym (same k)) (b.until k);
  changes = λ k. subst (AreChanges None) (sym (same k)) (b.changes k);
}

pub rows_none : (all : Table) (es : VersionsByKey Row) → es ≡ [] → (p : ℕ) (k : List ℕ) → or_else (row_at k all) (held_at p es k) ≡ row_at k all
unfolding or_else
rows_none all es none p k = ap (λ x. or_else (row_at k all) (held_at p x k)) none ∙ by (row_at k all) where
  by : (o : Option Row) → or_else o None ≡ o
  by None = refl
  by (Some d) = refl

pub until_none : (es : VersionsByKey Row) → es ≡ [] → AreAllUntil 0 es
until_none es none k = subst (λ x. AreUntil 0 (history_at k x)) (sym none) (λ i d h. absurd (omega arith))

-- ---- an answer

pub answers_then : (a : Act) (ss : List Statement) (p : ℕ) (v : OverTime) (d : Datum) → a ≡ Transact ss
    → IsAnswerAt v.widths p v.rows ss d → IsAnswerThen a p v d
answers_then a ss p v d is answers cell choice holds =
    answers holds.tables holds.fit holds.standing
    ∙ sym (ap (λ x. (acted x choice cell).1) is ∙ ap (λ c. (acted (Transact ss) choice c).1) holds.is
    ∙ ap (λ (r : Cell × Datum). r.1) (acts ss choice holds.tables))

pub IfOk-map : {T E : Type 0} {P Q : T → Type 0} (r : Result T E) → ((x : T) → P x → Q x) → IfOk r P → IfOk r Q
IfOk-map (Ok x) f p = f x p
IfOk-map (Err e) f p = tt
