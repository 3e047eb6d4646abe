-- What the calls of the parts change and give is what the operations are defined to.
use Rattle.std.proofs.Common.{◌≡◌, ◌∙◌, ℕ, ℤ, List, Bool, true, false, cond, Some, None, Result, Ok, Err, IfOk, OnOk, OnErr, refl, sym, ap, subst}
use Rattle.std.specs.declared.vec.Vec.{Vec}
use Rattle.script_tree.specs.Datum.{Datum, null, number}
use Rattle.script_tree.specs.Objects.{Cell, one, many, rows, reading, none, acted, plausible, is_reading, is_roll, or_null, holding, is_same}
use Rattle.script_tree.specs.Transactions.{Row, Table, after_transaction}
use Rattle.script_tree.specs.declared.operation.Act.{Act}
use Rattle.script_tree.specs.declared.operation.Act.TheVariants.{Read, Write, Get, Put, Remove, Transact, Now, Roll}
use Rattle.script_tree.specs.declared.operation.Choice.{Choice}
use Rattle.script_tree.specs.declared.operation.Choice.TheVariants.{Nothing, Number}
use Rattle.script_tree.specs.declared.operation.Object.{Object}
use Rattle.script_tree.specs.declared.operation.Object.TheVariants.{Register, Store, Tables, Clock, Dice}
use Rattle.script_tree.specs.declared.transaction.Statement.{Statement}
use Rattle.script_tree.specs.Fit.{AreTables}
use Rattle.script_fit.specs.FitsTransaction.{FitsRow}
use Rattle.script_fit.proofs.Stay.{same_object}
use Rattle.object_cells.specs.Cells.{Held, held, Changes}
use Rattle.object_cells.specs.Stores.{HeldByName, held_in, ChangesIn}
use Rattle.object_cells.proofs.Acts.{write_acts, put_acts, remove_acts}
use Rattle.object_tables.specs.TableSets.{TableSet}
use Rattle.object_tables.specs.Answered.{AnswersTimes}
use Rattle.object_tables.specs.TransactionEnds.{IsInserted}
use Rattle.object_tables.proofs.Keeping.{row_inserted}
use Rattle.object_set.specs.Applied.{Does, DoesTimes, HasSame, IsOpOf, answer_now, op_of, takes, told}
use Rattle.object_set.specs.ObjectSets.{HeldObjects, held_objects, objects_of}

-- the same stores and tables are there where nothing changed
same_itself : (h : HeldObjects) → HasSame h h
same_itself h = record { stores = λ s. refl; widths = refl }

-- an object that holds what it did
unchanged : (object : Object) (cell : Cell) (h : HeldObjects) → cell ≡ objects_of h object → (o : Object)
    → objects_of h o ≡ holding object cell (objects_of h) o
unchanged object cell h e o = by (is_same object o) refl
  where
    by : (b : Bool) → is_same object o ≡ b → objects_of h o ≡ cond b cell (objects_of h o)
    by true p = ap (objects_of h) (sym (same_object object o p)) ∙ sym e
    by false p = refl

-- an operation that changes nothing
leaves : (object : Object) (act : Act) (choice : Choice) (h : HeldObjects) (answer : Datum) → answer ≡ (acted act choice (objects_of h object)).1
    → (acted act choice (objects_of h object)).0 ≡ objects_of h object → Does (op_of object act) choice h h answer
leaves object act choice h answer a e = record { answered = a; left = unchanged object (acted act choice (objects_of h object)).0 h e; same = same_itself h }

-- ---- registers

pub read_does : (name : List ℕ) (choice : Choice) (h : HeldObjects) (answer : Datum)
    → answer ≡ or_null (held h.registers name) → Does (op_of (Register name) Read) choice h h answer
unfolding acted
read_does name choice h answer e = leaves (Register name) Read choice h answer e refl

pub write_does : (name : List ℕ) (d : Datum) (choice : Choice) (old : HeldObjects) (new : Held) → Changes name (Some d) old.registers new
    → Does (op_of (Register name) (Write d)) choice old (held_objects new old.stores old.tables old.clock) null
unfolding acted
write_does name d choice old new changes = record { answered = refl; left = left; same = record { stores = λ s. refl; widths = refl } }
  where
    left : (o : Object) → objects_of (held_objects new old.stores old.tables old.clock) o ≡ holding (Register name) (one (Some d)) (objects_of old) o
    left (Register x) = write_acts choice name d old.registers new changes x
    left (Store s) = refl
    left Tables = refl
    left Clock = refl
    left Dice = refl

pub read_each : {E : Type 0} (name : List ℕ) (choice : Choice) (h : HeldObjects) (r : Result Datum E) → IfOk r (λ d. d ≡ or_null (held h.registers name))
    → IfOk r (Does (op_of (Register name) Read) choice h h)
read_each name choice h (Ok d) e = read_does name choice h d e
read_each name choice h (Err x) e = tt

-- ---- stores

pub get_does : (store key : List ℕ) (choice : Choice) (h : HeldObjects) (answer : Datum)
    → answer ≡ or_null (held_in h.stores store key) → Does (op_of (Store store) (Get key)) choice h h answer
unfolding acted
get_does store key choice h answer e = leaves (Store store) (Get key) choice h answer e refl

pub get_each : {E : Type 0} (store key : List ℕ) (choice : Choice) (h : HeldObjects) (r : Result Datum E)
    → IfOk r (λ d. d ≡ or_null (held_in h.stores store key))
    → IfOk r (Does (op_of (Store store) (Get key)) choice h h)
get_each store key choice h (Ok d) e = get_does store key choice h d e
get_each store key choice h (Err x) e = tt

pub put_does : (store key : List ℕ) (d : Datum) (choice : Choice) (old : HeldObjects) (new : HeldByName) → ChangesIn store key (Some d) old.stores new
    → Does (op_of (Store store) (Put key d)) choice old (held_objects old.registers new old.tables old.clock) null
unfolding acted
put_does store key d choice old new changes = record { answered = refl; left = left; same = record { stores = changes.same; widths = refl } }
  where
    left : (o : Object) → objects_of (held_objects old.registers new old.tables old.clock) o
        ≡ holding (Store store) (acted (Put key d) choice (many (held_in old.stores store))).0 (objects_of old) o
    left (Register x) = refl
    left (Store s) = put_acts choice store key d old.stores new changes s
    left Tables = refl
    left Clock = refl
    left Dice = refl

pub remove_does : (store key : List ℕ) (choice : Choice) (old : HeldObjects) (new : HeldByName) → ChangesIn store key None old.stores new
    → Does (op_of (Store store) (Remove key)) choice old (held_objects old.registers new old.tables old.clock) null
unfolding acted
remove_does store key choice old new changes = record { answered = refl; left = left; same = record { stores = changes.same; widths = refl } }
  where
    left : (o : Object) → objects_of (held_objects old.registers new old.tables old.clock) o
        ≡ holding (Store store) (acted (Remove key) choice (many (held_in old.stores store))).0 (objects_of old) o
    left (Register x) = refl
    left (Store s) = remove_acts choice store key old.stores new changes s
    left Tables = refl
    left Clock = refl
    left Dice = refl

-- ---- tables

pub transact_does : (ss : List Statement) (choice : Choice) (old : HeldObjects) (new : TableSet) (answer : Datum)
    → after_transaction ss old.tables.tables ≡ (new.tables, answer) → new.widths ≡ old.tables.widths
    → Does (op_of Tables (Transact ss)) choice old (held_objects old.registers old.stores new old.clock) answer
unfolding acted
transact_does ss choice old new answer e w = record {
  answered = ap (λ (r : List Table × Datum). r.1) (sym e);
  left = left;
  same = record { stores = λ s. refl; widths = w };
}
  where
    left : (x : Object) → objects_of (held_objects old.registers old.stores new old.clock) x
        ≡ holding Tables (rows (after_transaction ss old.tables.tables).0) (objects_of old) x
    left (Register x) = refl
    left (Store s) = refl
    left Tables = ap (λ (r : List Table × Datum). rows r.0) (sym e)
    left Clock = refl
    left Dice = refl

pub transact_times : {A E : Type 0} (count : ℕ) (ss : List Statement) (choice : Choice) (old : HeldObjects) (new : TableSet) (r : Result (Vec Datum A) E)
    → IfOk r (AnswersTimes count ss old.tables.tables new.tables) → new.widths ≡ old.tables.widths
    → IfOk r (DoesTimes count (op_of Tables (Transact ss)) choice old (held_objects old.registers old.stores new old.clock))
transact_times count ss choice old new (Ok answers) gives w =
    let answer = (after_transaction ss old.tables.tables).1 in
    record {
      answer = answer;
      done = transact_does ss choice old new answer (ap (λ tables. (tables, answer)) gives.left) w;
      given = gives.given;
    }
transact_times count ss choice old new (Err x) gives w = tt

-- ---- answers that are known beforehand

any_write : (d : Datum) (choice : Choice) (cell : Cell) → null ≡ (acted (Write d) choice cell).1
unfolding acted
any_write d choice (one old) = refl
any_write d choice (many m) = refl
any_write d choice (rows tables) = refl
any_write d choice (reading last) = refl
any_write d choice none = refl

any_put : (k : List ℕ) (d : Datum) (choice : Choice) (cell : Cell) → null ≡ (acted (Put k d) choice cell).1
unfolding acted
any_put k d choice (one old) = refl
any_put k d choice (many m) = refl
any_put k d choice (rows tables) = refl
any_put k d choice (reading last) = refl
any_put k d choice none = refl

any_remove : (k : List ℕ) (choice : Choice) (cell : Cell) → null ≡ (acted (Remove k) choice cell).1
unfolding acted
any_remove k choice (one old) = refl
any_remove k choice (many m) = refl
any_remove k choice (rows tables) = refl
any_remove k choice (reading last) = refl
any_remove k choice none = refl

-- the acts that answer null
abbrev pub IsChange : Act → Type 0
IsChange Read = ⊥
IsChange (Write d) = Unit {0}
IsChange (Get k) = ⊥
IsChange (Put k d) = Unit {0}
IsChange (Remove k) = Unit {0}
IsChange (Transact ss) = ⊥
IsChange Now = ⊥
IsChange (Roll bound) = ⊥

pub changes_answer : (object : Object) (act : Act) (choice : Choice) (h : HeldObjects) → IsChange act → null ≡ answer_now object act choice h
changes_answer object Read choice h c = absurd c
changes_answer object (Write d) choice h c = any_write d choice (objects_of h object)
changes_answer object (Get k) choice h c = absurd c
changes_answer object (Put k d) choice h c = any_put k d choice (objects_of h object)
changes_answer object (Remove k) choice h c = any_remove k choice (objects_of h object)
changes_answer object (Transact ss) choice h c = absurd c
changes_answer object Now choice h c = absurd c
changes_answer object (Roll bound) choice h c = absurd c

pub now_told : (object : Object) (choice : Choice) (h : HeldObjects) → IsOpOf h (op_of object Now) → told choice ≡ answer_now object Now choice h
unfolding acted
now_told (Register x) choice h f = absurd f
now_told (Store s) choice h f = absurd f.1
now_told Tables choice h f = absurd f
now_told Clock Nothing h f = refl
now_told Clock (Number n) h f = refl
now_told Dice choice h f = absurd f

pub roll_told : (object : Object) (bound : ℤ) (choice : Choice) (h : HeldObjects)
    → IsOpOf h (op_of object (Roll bound)) → told choice ≡ answer_now object (Roll bound) choice h
unfolding acted
roll_told (Register x) bound choice h f = absurd f
roll_told (Store s) bound choice h f = absurd f.1
roll_told Tables bound choice h f = absurd f
roll_told Clock bound choice h f = absurd f
roll_told Dice bound Nothing h f = refl
roll_told Dice bound (Number n) h f = refl

-- only tables are asked for a transaction
pub transact_object : (object : Object) (ss : List Statement) (h : HeldObjects) → IsOpOf h (op_of object (Transact ss)) → object ≡ Tables
transact_object (Register x) ss h f = absurd f
transact_object (Store s) ss h f = absurd f.1
transact_object Tables ss h f = refl
transact_object Clock ss h f = absurd f
transact_object Dice ss h f = absurd f

-- ---- the clock and the dice

pub reads_clock : (n : ℤ) (old : HeldObjects) → Does (op_of Clock Now) (Number n) old (held_objects old.registers old.stores old.tables n) (number n)
unfolding acted
reads_clock n old = record { answered = refl; left = left; same = record { stores = λ s. refl; widths = refl } }
  where
    left : (x : Object) → objects_of (held_objects old.registers old.stores old.tables n) x ≡ holding Clock (reading n) (objects_of old) x
    left (Register x) = refl
    left (Store s) = refl
    left Tables = refl
    left Clock = refl
    left Dice = refl

pub rolls : (bound n : ℤ) (h : HeldObjects) → Does (op_of Dice (Roll bound)) (Number n) h h (number n)
unfolding acted
rolls bound n h = leaves Dice (Roll bound) (Number n) h (number n) refl refl

-- ---- choices

pub clock_takes : (choice : Choice) (h : HeldObjects) → takes (op_of Clock Now) choice h ≡ is_reading choice (reading h.clock)
unfolding plausible
clock_takes choice h = refl

pub dice_take : (bound : ℤ) (choice : Choice) (h : HeldObjects) → takes (op_of Dice (Roll bound)) choice h ≡ is_roll bound choice none
unfolding plausible
dice_take bound choice h = refl

-- tables are kept where a call that changes them tells so
pub tables_kept : {A E : Type 0} (old new : TableSet) (r : Result A E) → AreTables old.widths old.tables
    → OnOk r (AreTables new.widths new.tables) → OnErr r (new ≡ old)
    → AreTables new.widths new.tables
tables_kept old new (Ok x) a fit e = fit
tables_kept old new (Err x) a fit e = rw e a

pub row_kept : {E : Type 0} (t : ℕ) (row : Row) (old new : TableSet) (r : Result Bool E) → AreTables old.widths old.tables → FitsRow old.widths t row
    → IfOk r (IsInserted t row old.tables new.tables) → new.widths ≡ old.widths → OnErr r (new ≡ old) → AreTables new.widths new.tables
row_kept t row old new (Ok true) a f d w e = subst (λ v. AreTables v new.tables) (sym w) (row_inserted old.widths t row old.tables new.tables f a d)
row_kept t row old new (Ok false) a f d w e = rw (w, d.1) a
row_kept t row old new (Err x) a f d w e = rw e a
