-- What versions tell of their logs.
use Rattle.std.proofs.Common.{◌≡◌, ◌≢◌, ◌∙◌, ℕ, zero, suc, ◌+◌, ◌<◌, ℤ, false, List, [], ◌∷◌, length, get_or, take, Option, Some, None, refl, sym, ap, subst, arith, ⊎_elim}
use Rattle.std.proofs.lemmas.Bool.{cases_eq}
use Rattle.basis.specs.Lists.{nth}
use Rattle.basis.proofs.Options.{some_is, none_is_not}
use Rattle.script_tree.specs.Datum.{Datum}
use Rattle.script_tree.specs.Objects.{one, many, rows, reading, none, acted}
use Rattle.script_tree.specs.declared.operation.Act.{Act}
use Rattle.script_tree.specs.declared.operation.Act.TheVariants.{Read, Write, Get, Put, Remove, Transact, Now, Roll}
use Rattle.script_tree.specs.declared.operation.Choice.{Choice}
use Rattle.script_tree.specs.declared.operation.Choice.TheVariants.{Nothing, Number}
use Rattle.script_tree.specs.declared.operation.Object.{Object}
use Rattle.script_tree.specs.declared.operation.Object.TheVariants.{Register, Store, Tables, Clock, Dice}
use Rattle.period.specs.declared.report.LogEntry.{LogEntry}
use Rattle.period.specs.LeftBy.{left_by}
use Rattle.object_set.specs.Applied.{FitsSet, op_of}
use Rattle.object_set.specs.ObjectSets.{HeldObjects, objects_of}
use Rattle.versioned_cells.specs.Versions.{Versions as CellVersions, VersionsByKey, as_of, held_at}
use Rattle.versioned_tables.specs.OverTime.{FitEntries}
use Rattle.versioned_store.specs.Logged.{Logged, cell_before, named_cell, FitAll}
use Rattle.versioned_store.specs.Entries.{HasEntry}
use Rattle.versioned_store.specs.Sources.{selects_alone}
use Rattle.versioned_store.specs.Tables.{TellsSelects, IsToldSelects}
use Rattle.versioned_store.specs.Tellings.{Tells}
use Rattle.versioned_store.specs.declared.selects.SelectedTables.{SelectedTables}
use Rattle.versioned_store.specs.declared.versions.Versions.{Versions}
use Rattle.versioned_store.specs.declared.versions.Versions.TheVariants.{Register as OfRegister, Store as OfStore, Tables as OfTables, Clock as OfClock, Dice as OfDice}

-- ---- places

pub within : {A : Type 0} (xs : List A) (i : ℕ) (x : A) → nth xs i ≡ Some x → i < length xs
within [] i x e = absurd (none_is_not e)
within (y ∷ xs) zero x e = omega arith
within (y ∷ xs) (suc i) x e = let l = within xs i x e in omega arith

pub here : {A : Type 0} (xs : List A) (i : ℕ) (x d : A) → nth xs i ≡ Some x → get_or xs i d ≡ x
here [] i x d e = absurd (none_is_not e)
here (y ∷ xs) zero x d e = some_is e
here (y ∷ xs) (suc i) x d e = here xs i x d e

pub place : {A : Type 0} (xs : List A) (i : ℕ) (d : A) → i < length xs → nth xs i ≡ Some (get_or xs i d)
place [] i d h = absurd (omega arith)
place (y ∷ xs) zero d h = refl
place (y ∷ xs) (suc i) d h = place xs i d (omega arith)

pub nth_get : {A : Type 0} (xs : List A) (i : ℕ) (x d : A) → i < length xs → x ≡ get_or xs i d → nth xs i ≡ Some x
nth_get xs i x d h is = place xs i d h ∙ ap Some (sym is)

-- the object of the log in which there is an entry
pub logged_there : (inside logs : List Logged) (l p : ℕ) (x o : Logged) → inside ≡ logs → HasEntry logs l p
    → x ≡ get_or inside l x → nth logs l ≡ Some o → x ≡ o
logged_there inside logs l p x o same entry is at =
    let found : nth inside l ≡ Some entry.object = ap (λ ls. nth ls l) same ∙ entry.log_is in
    some_is (sym (nth_get inside l x x (within inside l entry.object found) is) ∙ ap (λ ls. nth ls l) same ∙ at)

-- what holds at a place, and at those before it
pub last_or : (P : ℕ → Type 0) (i j : ℕ) → j < i + 1 → (j ≡ i → P j) → (j < i → P j) → P j
last_or P i j h same less = ⊎_elim same (λ apart. less (omega (arith, h, apart))) (cases_eq j i)

-- ---- what stands before an entry

pub cell_register : (o : Logged) (p : ℕ) (v : Versions) (vs : CellVersions Datum) → v ≡ OfRegister vs → Tells o v → cell_before o p ≡ one (as_of p None vs)
cell_register o p v vs is tells =
    let t : Tells o (OfRegister vs) = subst (Tells o) is tells in
    ap (λ object. left_by (take p o.log.entries) (objects_of o.start object)) t.1 ∙ t.2 p

pub cell_store : (o : Logged) (p : ℕ) (v : Versions) (es : VersionsByKey Datum) → v ≡ OfStore es → Tells o v → cell_before o p ≡ many (held_at p es)
cell_store o p v es is tells =
    let t : Tells o (OfStore es) = subst (Tells o) is tells in
    ap (λ object. left_by (take p o.log.entries) (objects_of o.start object)) t.1 ∙ t.2 p

acted_reading : (a : Act) (c : Choice) (r : ℤ) → (n : ℤ) × ((acted a c (reading r)).0 ≡ reading n)
unfolding acted
acted_reading Read c r = (r, refl)
acted_reading (Write d) c r = (r, refl)
acted_reading (Get k) c r = (r, refl)
acted_reading (Put k d) c r = (r, refl)
acted_reading (Remove k) c r = (r, refl)
acted_reading (Transact ss) c r = (r, refl)
acted_reading Now Nothing r = (r, refl)
acted_reading Now (Number n) r = (n, refl)
acted_reading (Roll b) Nothing r = (r, refl)
acted_reading (Roll b) (Number n) r = (r, refl)

acted_none : (a : Act) (c : Choice) → (acted a c none).0 ≡ none
unfolding acted
acted_none Read c = refl
acted_none (Write d) c = refl
acted_none (Get k) c = refl
acted_none (Put k d) c = refl
acted_none (Remove k) c = refl
acted_none (Transact ss) c = refl
acted_none Now Nothing = refl
acted_none Now (Number n) = refl
acted_none (Roll b) Nothing = refl
acted_none (Roll b) (Number n) = refl

left_reading : (es : List LogEntry) (r : ℤ) → (n : ℤ) × (left_by es (reading r) ≡ reading n)
left_reading [] r = (r, refl)
left_reading (e ∷ es) r =
    let a = acted_reading e.act e.choice r in
    let b = left_reading es a.0 in
    (b.0, ap (left_by es) a.1 ∙ b.1)

left_none : (es : List LogEntry) → left_by es none ≡ none
left_none [] = refl
left_none (e ∷ es) = ap (left_by es) (acted_none e.act e.choice) ∙ left_none es

pub cell_clock : (o : Logged) (p : ℕ) (v : Versions) → v ≡ OfClock → Tells o v → (n : ℤ) × (cell_before o p ≡ reading n)
cell_clock o p v is tells =
    let t : o.log.object ≡ Clock = subst (Tells o) is tells in
    let r = left_reading (take p o.log.entries) o.start.clock in
    (r.0, ap (λ object. left_by (take p o.log.entries) (objects_of o.start object)) t ∙ r.1)

pub cell_dice : (o : Logged) (p : ℕ) (v : Versions) → v ≡ OfDice → Tells o v → cell_before o p ≡ none
cell_dice o p v is tells =
    let t : o.log.object ≡ Dice = subst (Tells o) is tells in
    ap (λ object. left_by (take p o.log.entries) (objects_of o.start object)) t ∙ left_none (take p o.log.entries)

pub cell_tables : (o : Logged) (p : ℕ) (v : Versions) (t : SelectedTables) → v ≡ OfTables t → Tells o v → (ts : List _) × (cell_before o p ≡ rows ts)
cell_tables o p v t is tells =
    let told : Tells o (OfTables t) = subst (Tells o) is tells in
    let holds = told.1.tables.holds p in
    (holds.tables, ap (λ object. left_by (take p o.log.entries) (objects_of o.start object)) told.0 ∙ holds.is)

-- ---- cells

pub named_reading : (a : Act) (n : ℤ) → None ≡ named_cell a (reading n)
named_reading Read n = refl
named_reading (Write d) n = refl
named_reading (Get k) n = refl
named_reading (Put k d) n = refl
named_reading (Remove k) n = refl
named_reading (Transact ss) n = refl
named_reading Now n = refl
named_reading (Roll b) n = refl

pub named_none : (a : Act) → None ≡ named_cell a none
named_none Read = refl
named_none (Write d) = refl
named_none (Get k) = refl
named_none (Put k d) = refl
named_none (Remove k) = refl
named_none (Transact ss) = refl
named_none Now = refl
named_none (Roll b) = refl

pub named_rows : (a : Act) (ts : List _) → None ≡ named_cell a (rows ts)
named_rows Read ts = refl
named_rows (Write d) ts = refl
named_rows (Get k) ts = refl
named_rows (Put k d) ts = refl
named_rows (Remove k) ts = refl
named_rows (Transact ss) ts = refl
named_rows Now ts = refl
named_rows (Roll b) ts = refl

pub named_one : (a : Act) (o : Option Datum) → o ≡ named_cell a (one o)
named_one Read o = refl
named_one (Write d) o = refl
named_one (Get k) o = refl
named_one (Put k d) o = refl
named_one (Remove k) o = refl
named_one (Transact ss) o = refl
named_one Now o = refl
named_one (Roll b) o = refl

-- ---- tables

pub told_tables : (o : Logged) (v : Versions) (t : SelectedTables) → v ≡ OfTables t → Tells o v → TellsSelects o.log.entries o.start.tables t
told_tables o v t is tells = let told : Tells o (OfTables t) = subst (Tells o) is tells in told.1

pub of_tables : (o : Logged) (v : Versions) (t : SelectedTables) → v ≡ OfTables t → Tells o v → o.log.object ≡ Tables
of_tables o v t is tells = let told : Tells o (OfTables t) = subst (Tells o) is tells in told.0

pub fit_entries : (start : HeldObjects) (object : Object) (entries : List LogEntry) → object ≡ Tables
    → FitAll start object entries → FitEntries start.tables.widths entries
fit_entries start object entries is f p e at = subst (λ object. FitsSet start (op_of object e.act)) is (f p e at)

pub all_told : (o : Logged) (v : Versions) (t : SelectedTables) → v ≡ OfTables t
    → FitAll o.start o.log.object o.log.entries → Tells o v → IsToldSelects o.log.entries t
all_told o v t is f tells = record {
  start = o.start.tables;
  fit = fit_entries o.start o.log.object o.log.entries
      (of_tables o v t is tells) f;
  tells = told_tables o v t is tells;
}

-- ---- objects without selects

-- what is asked of another object than the tables is no transaction
abbrev pub HasNoSelects : Object → Type 0
HasNoSelects object = (start : HeldObjects) (a : Act) → FitsSet start (op_of object a) → selects_alone a ≡ false

on_register : (x : List ℕ) → HasNoSelects (Register x)
on_register x start Read f = refl
on_register x start (Write d) f = refl
on_register x start (Get k) f = refl
on_register x start (Put k d) f = refl
on_register x start (Remove k) f = refl
on_register x start (Transact ss) f = absurd f
on_register x start Now f = refl
on_register x start (Roll b) f = refl

on_clock : HasNoSelects Clock
on_clock start Read f = refl
on_clock start (Write d) f = refl
on_clock start (Get k) f = refl
on_clock start (Put k d) f = refl
on_clock start (Remove k) f = refl
on_clock start (Transact ss) f = absurd f
on_clock start Now f = refl
on_clock start (Roll b) f = refl

on_dice : HasNoSelects Dice
on_dice start Read f = refl
on_dice start (Write d) f = refl
on_dice start (Get k) f = refl
on_dice start (Put k d) f = refl
on_dice start (Remove k) f = refl
on_dice start (Transact ss) f = absurd f
on_dice start Now f = refl
on_dice start (Roll b) f = refl

on_store : (s : List ℕ) → HasNoSelects (Store s)
on_store s start Read f = refl
on_store s start (Write d) f = refl
on_store s start (Get k) f = refl
on_store s start (Put k d) f = refl
on_store s start (Remove k) f = refl
on_store s start (Transact ss) f = absurd f.1
on_store s start Now f = refl
on_store s start (Roll b) f = refl

pub no_selects : (object : Object) → object ≢ Tables → HasNoSelects object
no_selects (Register x) n = on_register x
no_selects (Store s) n = on_store s
no_selects Tables n = absurd (n refl)
no_selects Clock n = on_clock
no_selects Dice n = on_dice
