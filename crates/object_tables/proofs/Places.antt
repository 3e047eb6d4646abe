-- One table of all.
use Rattle.std.proofs.Common.{◌≡◌, ◌<◌, ◌≤◌, ℕ, zero, suc, List, [], ◌∷◌, Option, length, get_or, set, map, take, sym, ◌++◌, ◌+◌, refl, ap, ◌∙◌, arith}
use Rattle.std.specs.List.Sorted.{IsStrictlySortedBy}
use Rattle.std.specs.Map.{keys_of}
use Rattle.std.proofs.lemmas.List.{take_more, take_all, map-append}
use Rattle.basis.specs.Lists.{with_nth}
use Rattle.script_tree.specs.Transactions.{table_at}
use Rattle.object_tables.specs.Slots.{Slot, Slots, by_bytes, restored, rows_of, IsFiled}
use Rattle.object_tables.specs.UndoLog.{restored_at, settled_at, AllFiled, AreWhole}
use Rattle.object_tables.specs.TableSets.{no_rows}
use Rattle.object_tables.proofs.PutBack.{rows_settled, filed_settled}

pub back_in : (ts : List Slots) (t : ℕ) (k : List ℕ) (before : Option Slot) (es : Slots) → t < length ts → restored k before es ≡ get_or ts t []
    → restored_at t k before (set ts t es) ≡ ts
back_in [] t k before es h e = absurd (omega arith)
back_in (x ∷ ts) zero k before es h e = ap (λ y. y ∷ ts) e
back_in (x ∷ ts) (suc t) k before es h e = ap (λ ys. x ∷ ys) (back_in ts t k before es (omega arith) e)

pub rows_at : (ts : List Slots) (t : ℕ) (es : Slots) → rows_of es ≡ rows_of (get_or ts t []) → map rows_of (set ts t es) ≡ map rows_of ts
rows_at [] t es e = refl
rows_at (x ∷ ts) zero es e = ap (λ y. y ∷ map rows_of ts) e
rows_at (x ∷ ts) (suc t) es e = ap (λ ys. rows_of x ∷ ys) (rows_at ts t es e)

pub filed_at : (ts : List Slots) (t : ℕ) → AllFiled ts → IsFiled (get_or ts t [])
filed_at [] t f = tt
filed_at (x ∷ ts) zero f = f.0
filed_at (x ∷ ts) (suc t) f = filed_at ts t f.1

pub filed_set : (ts : List Slots) (t : ℕ) (es : Slots) → AllFiled ts → IsFiled es → AllFiled (set ts t es)
filed_set [] t es f g = tt
filed_set (x ∷ ts) zero es f g = (g, f.1)
filed_set (x ∷ ts) (suc t) es f g = (f.0, filed_set ts t es f.1 g)

pub rows_there : (ts : List Slots) (t : ℕ) → table_at t (map rows_of ts) ≡ rows_of (get_or ts t [])
rows_there [] t = refl
rows_there (x ∷ ts) zero = refl
rows_there (x ∷ ts) (suc t) = rows_there ts t

pub rows_set : (ts : List Slots) (t : ℕ) (es : Slots) → map rows_of (set ts t es) ≡ with_nth t (rows_of es) (map rows_of ts)
rows_set [] t es = refl
rows_set (x ∷ ts) zero es = refl
rows_set (x ∷ ts) (suc t) es = ap (λ ys. rows_of x ∷ ys) (rows_set ts t es)

-- what an index gives, by the default of the definitions
pub there : (ts : List Slots) (t : ℕ) (es : Slots) → t < length ts → es ≡ get_or ts t es → es ≡ get_or ts t []
there [] t es h e = absurd (omega arith)
there (x ∷ ts) zero es h e = e
there (x ∷ ts) (suc t) es h e = there ts t es (omega arith) e

-- ---- tables without rows

abbrev pub empty_slots : List ℕ → List Slots
empty_slots widths = map (λ width. []) widths

pub one_more_empty : (widths : List ℕ) (i : ℕ) (ts us : List Slots) (es : Slots) → i < length widths
    → ts ≡ empty_slots (take i widths) → es ≡ [] → us ≡ ts ++ es ∷ []
    → us ≡ empty_slots (take (i + 1) widths)
one_more_empty widths i ts us es h t e u = rw (u, t, e, take_more widths i 0 h) (sym (map-append (λ width. []) (take i widths) (get_or widths i 0 ∷ [])))

pub all_empty : (widths items : List ℕ) (i : ℕ) (ts : List Slots) → ts ≡ empty_slots (take i items) → length items ≤ i
    → items ≡ widths → ts ≡ empty_slots widths
all_empty widths items i ts t h e = t ∙ ap empty_slots (take_all i items h ∙ e)

pub filed_empty : (widths : List ℕ) → AllFiled (empty_slots widths)
filed_empty [] = tt
filed_empty (w ∷ widths) = (tt, filed_empty widths)

pub whole_empty : (widths : List ℕ) → AreWhole (empty_slots widths)
whole_empty [] = tt
whole_empty (w ∷ widths) = (tt, whole_empty widths)

pub rows_empty : (widths : List ℕ) → map rows_of (empty_slots widths) ≡ no_rows widths
rows_empty [] = refl
rows_empty (w ∷ widths) = ap (λ ys. [] ∷ ys) (rows_empty widths)

pub filed_here : (ts : List Slots) (t : ℕ) (es : Slots) → AllFiled ts → t < length ts → es ≡ get_or ts t es → IsFiled es
filed_here ts t es f h e = rw (there ts t es h e) (filed_at ts t f)

pub rows_settled_at : (ts : List Slots) (t : ℕ) (k : List ℕ) → map rows_of (settled_at t k ts) ≡ map rows_of ts
rows_settled_at ts t k = rows_at ts t _ (rows_settled k (get_or ts t []))

pub filed_settled_at : (ts : List Slots) (t : ℕ) (k : List ℕ) → AllFiled ts → AllFiled (settled_at t k ts)
filed_settled_at ts t k f = filed_set ts t _ f (filed_settled k (get_or ts t []) (filed_at ts t f))

pub nothing_past : (ts : List Slots) (t : ℕ) → length ts ≤ t → get_or ts t [] ≡ []
nothing_past [] t h = refl
nothing_past (x ∷ ts) zero h = absurd (omega arith)
nothing_past (x ∷ ts) (suc t) h = nothing_past ts t (omega arith)

pub nothing_in_order : (ts : List Slots) (t : ℕ) → length ts ≤ t → IsStrictlySortedBy by_bytes (keys_of (get_or ts t []))
unfolding IsStrictlySortedBy
nothing_in_order ts t h = rw (nothing_past ts t h) tt
