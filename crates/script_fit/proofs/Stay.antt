-- What an object holds fits after an act that fits.
use Rattle.std.proofs.Common.{◌≡◌, ℕ, ◌≤ℤ◌, pos, Bool, true, false, cond, List, Option, Some, None, refl, sym, ap, subst, ◌∙◌, arith}
use Rattle.std.specs.Prelude.{ℤ, int_le}
use Rattle.std.specs.Str.{bytes_eq}
use Rattle.std.proofs.lemmas.Slice.Eq.{bytes_eq-Decides}
use Rattle.script_tree.specs.Datum.{Datum}
use Rattle.script_tree.specs.Transactions.{Table}
use Rattle.script_tree.specs.Fit.{AreTables, Fit, FitsObject, IsEntry, IsStore, declares_store, table_widths}
use Rattle.script_tree.specs.Objects.{Cell, one, many, rows, reading, none, Objects, acted, plausible, is_same, with_key}
use Rattle.script_tree.specs.Programs.{Program}
use Rattle.script_tree.specs.declared.operation.Act.{Act}
use Rattle.script_tree.specs.declared.operation.Act.TheVariants.{Read, Write, Get, Put, Remove, Transact, Now, Roll}
use Rattle.script_tree.specs.declared.operation.Choice.{Choice}
use Rattle.script_tree.specs.declared.operation.Choice.TheVariants.{Nothing, Number}
use Rattle.script_tree.specs.declared.operation.Object.{Object}
use Rattle.script_tree.specs.declared.operation.Object.TheVariants.{Register, Store, Tables, Clock, Dice}
use Rattle.script_tree.specs.declared.operation.Op.{Op}
use Rattle.script_fit.specs.FitsOperation.{FitsAct, FitsOperation, FitsRegister, FitsStore, FitsTables, FitsClock, FitsDice}
use Rattle.script_fit.specs.Laws.{objects_after}
use Rattle.script_fit.proofs.Transacted.{transacted}

same_bytes : (a b : List ℕ) → bytes_eq a b ≡ true → a ≡ b
same_bytes a b e = (bytes_eq-Decides a b).0 e

pub same_object : (a b : Object) → is_same a b ≡ true → a ≡ b
same_object (Register a) (Register b) e = ap Register (same_bytes a b e)
same_object (Store a) (Store b) e = ap Store (same_bytes a b e)
same_object Tables Tables e = refl
same_object Clock Clock e = refl
same_object Dice Dice e = refl
same_object a b e = cc

entry_with : (k : List ℕ) (d : Option Datum) (m : List ℕ → Option Datum) → IsEntry k d
    → ((x : List ℕ) → IsEntry x (m x)) → (x : List ℕ) → IsEntry x (with_key k d m x)
entry_with k d m h s x = by (bytes_eq x k) refl
  where
    by : (b : Bool) → bytes_eq x k ≡ b → IsEntry x (cond b d (m x))
    by true p = subst (λ y. IsEntry y d) (sym (same_bytes x k p)) h
    by false p = s x

store_with : (b : Bool) (k : List ℕ) (d : Option Datum) (m : List ℕ → Option Datum) → b ≡ true → IsEntry k d → IsStore b m → IsStore b (with_key k d m)
store_with true k d m e h s = entry_with k d m h s
store_with false k d m e h s = absurd cc

-- A register holds a value within the limits, where one is written.
register_stays : (x : List ℕ) (act : Act) (choice : Choice) (d : Option Datum) → IsEntry x d → FitsRegister x act
    → (e : Option Datum) × ((acted act choice (one d)).0 ≡ one e) × IsEntry x e
unfolding acted
register_stays x Read c d h f = (d, refl, h)
register_stays x (Write v) c d h f = (Some v, refl, f)
register_stays x (Get k) c d h f = absurd f
register_stays x (Put k v) c d h f = absurd f
register_stays x (Remove k) c d h f = absurd f
register_stays x (Transact ss) c d h f = absurd f
register_stays x Now c d h f = absurd f
register_stays x (Roll bound) c d h f = absurd f

store_stays : (b : Bool) (act : Act) (choice : Choice) (m : List ℕ → Option Datum) → b ≡ true → IsStore b m → FitsStore act
    → (n : List ℕ → Option Datum) × ((acted act choice (many m)).0 ≡ many n) × IsStore b n
unfolding acted
store_stays b Read c m e h f = absurd f
store_stays b (Write v) c m e h f = absurd f
store_stays b (Get k) c m e h f = (m, refl, h)
store_stays b (Put k v) c m e h f = (_, refl, store_with b k (Some v) m e f h)
store_stays b (Remove k) c m e h f = (_, refl, store_with b k None m e tt h)
store_stays b (Transact ss) c m e h f = absurd f
store_stays b Now c m e h f = absurd f
store_stays b (Roll bound) c m e h f = absurd f

tables_stay : (widths : List ℕ) (act : Act) (choice : Choice) (ts : List Table) → AreTables widths ts
    → FitsTables widths act
    → (us : List Table) × ((acted act choice (rows ts)).0 ≡ rows us) × AreTables widths us
unfolding acted
tables_stay ws Read c ts h f = absurd f
tables_stay ws (Write v) c ts h f = absurd f
tables_stay ws (Get k) c ts h f = absurd f
tables_stay ws (Put k v) c ts h f = absurd f
tables_stay ws (Remove k) c ts h f = absurd f
tables_stay ws (Transact ss) c ts h f = (_, refl, transacted ws ss ts h f)
tables_stay ws Now c ts h f = absurd f
tables_stay ws (Roll bound) c ts h f = absurd f

up : (last n : ℤ) → pos 0 ≤ℤ last → int_le last n ≡ true → pos 0 ≤ℤ n
up last n h p = grind arith

clock_stays : (act : Act) (choice : Choice) (last : ℤ) → pos 0 ≤ℤ last → plausible act choice (reading last) ≡ true
    → FitsClock act
    → (n : ℤ) × ((acted act choice (reading last)).0 ≡ reading n) × (pos 0 ≤ℤ n)
unfolding acted plausible
clock_stays Read c last h p f = absurd f
clock_stays (Write v) c last h p f = absurd f
clock_stays (Get k) c last h p f = absurd f
clock_stays (Put k v) c last h p f = absurd f
clock_stays (Remove k) c last h p f = absurd f
clock_stays (Transact ss) c last h p f = absurd f
clock_stays Now Nothing last h p f = (last, refl, h)
clock_stays Now (Number n) last h p f = (n, refl, up last n h p)
clock_stays (Roll bound) c last h p f = absurd f

dice_stay : (act : Act) (choice : Choice) → FitsDice act → (acted act choice none).0 ≡ none
unfolding acted
dice_stay Read c f = absurd f
dice_stay (Write v) c f = absurd f
dice_stay (Get k) c f = absurd f
dice_stay (Put k v) c f = absurd f
dice_stay (Remove k) c f = absurd f
dice_stay (Transact ss) c f = absurd f
dice_stay Now c f = absurd f
dice_stay (Roll bound) Nothing f = refl
dice_stay (Roll bound) (Number n) f = refl

-- The object that an act is of still holds what it may.
object_stays : (program : Program) (o : Object) (act : Act) (choice : Choice) (cell : Cell)
    → FitsObject program o cell → FitsAct (declares_store program.declarations)
    (table_widths program.declarations) o act
    → plausible act choice cell ≡ true → FitsObject program o (acted act choice cell).0
object_stays program (Register x) act choice cell h f p =
    let s = register_stays x act choice h.0 h.2 f in (s.0, ap (λ c. (acted act choice c).0) h.1 ∙ s.1, s.2)
object_stays program (Store x) act choice cell h f p =
    let s = store_stays (declares_store program.declarations x) act choice h.0 f.0 h.2 f.1 in (s.0, ap (λ c. (acted act choice c).0) h.1 ∙ s.1, s.2)
object_stays program Tables act choice cell h f p =
    let s = tables_stay (table_widths program.declarations) act choice h.0 h.2 f in (s.0, ap (λ c. (acted act choice c).0) h.1 ∙ s.1, s.2)
object_stays program Clock act choice cell h f p =
    let s = clock_stays act choice h.0 h.2 (ap (plausible act choice) (sym h.1) ∙ p) f in (s.0, ap (λ c. (acted act choice c).0) h.1 ∙ s.1, s.2)
object_stays program Dice act choice cell h f p = ap (λ c. (acted act choice c).0) h ∙ dice_stay act choice f

pub stays : (program : Program) (objects : Objects) (op : Op) (choice : Choice) → Fit program objects → FitsOperation program op
    → plausible op.act choice (objects op.object) ≡ true → Fit program (objects_after op choice objects)
stays program objects op choice h f p x = by (is_same op.object x) refl
  where
    by : (b : Bool) → is_same op.object x ≡ b → FitsObject program x (cond b (acted op.act choice (objects op.object)).0 (objects x))
    by true e = subst (λ o. FitsObject program o (acted op.act choice (objects op.object)).0) (same_object op.object x e)
        (object_stays program op.object op.act choice (objects op.object) (h op.object) f p)
    by false e = h x
