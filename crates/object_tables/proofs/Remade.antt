-- The puts of an update or a delete make the table that the definition makes.
use Rattle.std.proofs.Common.{◌≡◌, ◌<◌, ℕ, zero, suc, List, [], ◌∷◌, ◌++◌, Some, None, true, false, Bool, refl, ap, ◌∙◌, arith}
use Rattle.std.specs.declared.cmp.Ordering.TheVariants.{Less, Greater}
use Rattle.std.specs.Ordering.{ordering_reverse}
use Rattle.std.specs.List.{AllByRecursion}
use Rattle.std.specs.Map.{keys_of}
use Rattle.std.specs.List.Sorted.{IsStrictlySortedBy}
use Rattle.std.proofs.lemmas.Cmp.{nat_list_cmp_total, tied_itself}
use Rattle.std.proofs.lemmas.Map.Keys.{sorted_head, sorted_tail}
use Rattle.script_tree.specs.Datum.{Datum}
use Rattle.basis.specs.Lists.{with_nth}
use Rattle.script_tree.specs.Transactions.{Row, key, meets, changed_row, updated_rows, other_rows}
use Rattle.script_tree.specs.declared.transaction.Test.{Test}
use Rattle.script_tree.specs.declared.transaction.Change.{Change}
use Rattle.object_tables.specs.Slots.{Slot, Slots, by_bytes, replaced, rows_of, IsFiled, IsFiledSlot, put_for, puts_for, with_puts, remade, remade_slot, KeepKeys}

-- above the key k are all keys of the puts
abbrev AreAbove : List ℕ → Slots → Type 0
AreAbove k ps = AllByRecursion (λ q. by_bytes k q ≡ Less) (keys_of ps)

above_put_for : (f : Row → Slot) (tests : List Test) (k q : List ℕ) (s : Slot) (ps : Slots) → by_bytes k q ≡ Less
    → AreAbove k ps → AreAbove k (put_for f tests q s ps)
above_put_for f tests k q None ps p a = a
above_put_for f tests k q (Some row) ps p a = by (meets tests row) refl
  where
    by : (b : Bool) → meets tests row ≡ b → AreAbove k (put_for f tests q (Some row) ps)
    by true e = rw e (p, a)
    by false e = rw e a

above_puts : (f : Row → Slot) (tests : List Test) (k : List ℕ) (es : Slots) → AreAbove k es → AreAbove k (puts_for f tests es)
above_puts f tests k [] a = tt
above_puts f tests k (e ∷ es) a = above_put_for f tests k e.0 e.1 (puts_for f tests es) a.0 (above_puts f tests k es a.1)

-- puts above a key leave it first
past : (ps : Slots) (e : List ℕ × Slot) (es : Slots) → AreAbove e.0 ps → with_puts ps (e ∷ es) ≡ e ∷ with_puts ps es
past [] e es a = refl
past (p ∷ ps) e es a =
    let g : by_bytes p.0 e.0 ≡ Greater = nat_list_cmp_total.antisymm p.0 e.0 ∙ ap ordering_reverse a.0 in
    ap (replaced p.0 p.1) (past ps e es a.1) ∙ rw g refl

one_made : (f : Row → Slot) (tests : List Test) (q : List ℕ) (s : Slot) (es : Slots) (ps : Slots) → AreAbove q ps
    → with_puts (put_for f tests q s ps) ((q, s) ∷ es) ≡ (q, remade_slot f tests s) ∷ with_puts ps es
one_made f tests q None es ps a = past ps (q, None) es a
one_made f tests q (Some row) es ps a = by (meets tests row) refl
  where
    by : (b : Bool) → meets tests row ≡ b → with_puts (put_for f tests q (Some row) ps) ((q, Some row) ∷ es)
        ≡ (q, remade_slot f tests (Some row)) ∷ with_puts ps es
    by true e = rw e (ap (replaced q (f row)) (past ps (q, Some row) es a) ∙ rw (tied_itself nat_list_cmp_total q) refl)
    by false e = rw e (past ps (q, Some row) es a)

pub makes : (f : Row → Slot) (tests : List Test) (es : Slots) → IsStrictlySortedBy by_bytes (keys_of es)
    → with_puts (puts_for f tests es) es ≡ remade f tests es
makes f tests [] o = refl
makes f tests (e ∷ es) o =
    one_made f tests e.0 e.1 es (puts_for f tests es) (above_puts f tests e.0 es (sorted_head by_bytes e.0 (keys_of es) o))
    ∙ ap (λ xs. (e.0, remade_slot f tests e.1) ∷ xs) (makes f tests es (sorted_tail by_bytes e.0 (keys_of es) o))

-- ---- an update

pub rows_updated : (changes : List Change) (tests : List Test) (es : Slots)
    → rows_of (remade (λ row. Some (changed_row changes row)) tests es) ≡ updated_rows changes tests (rows_of es)
rows_updated changes tests [] = refl
rows_updated changes tests ((q, None) ∷ es) = rows_updated changes tests es
rows_updated changes tests ((q, Some row) ∷ es) = by (meets tests row) refl (rows_updated changes tests es)
  where
    by : (b : Bool) → meets tests row ≡ b → rows_of (remade (λ row. Some (changed_row changes row)) tests es) ≡ updated_rows changes tests (rows_of es)
        → rows_of (remade (λ row. Some (changed_row changes row)) tests ((q, Some row) ∷ es)) ≡ updated_rows changes tests (row ∷ rows_of es)
    by true e ih = rw e (ap (λ rows. changed_row changes row ∷ rows) ih)
    by false e ih = rw e (ap (λ rows. row ∷ rows) ih)

key-with_nth : (row : Row) (c : ℕ) (d : Datum) → 0 < c → key (with_nth c d row) ≡ key row
key-with_nth [] c d h = refl
key-with_nth (x ∷ row) zero d h = absurd (omega arith)
key-with_nth (x ∷ row) (suc c) d h = refl

pub key-changed_row : (changes : List Change) (row : Row) → KeepKeys changes → key (changed_row changes row) ≡ key row
key-changed_row [] row h = refl
key-changed_row (c ∷ cs) row h = key-changed_row cs (with_nth c.column c.value row) h.1 ∙ key-with_nth row c.column c.value h.0

pub filed_updated : (changes : List Change) (tests : List Test) (es : Slots) → KeepKeys changes → IsFiled es
    → IsFiled (remade (λ row. Some (changed_row changes row)) tests es)
filed_updated changes tests [] h f = tt
filed_updated changes tests ((q, None) ∷ es) h f = (tt, filed_updated changes tests es h f.1)
filed_updated changes tests ((q, Some row) ∷ es) h f = (by (meets tests row) refl, filed_updated changes tests es h f.1)
  where
    by : (b : Bool) → meets tests row ≡ b → IsFiledSlot q (remade_slot (λ row. Some (changed_row changes row)) tests (Some row))
    by true e = rw e (key-changed_row changes row h ∙ f.0)
    by false e = rw e f.0

-- ---- a delete

pub rows_left : (tests : List Test) (es : Slots) → rows_of (remade (λ row. None) tests es) ≡ other_rows tests (rows_of es)
rows_left tests [] = refl
rows_left tests ((q, None) ∷ es) = rows_left tests es
rows_left tests ((q, Some row) ∷ es) = by (meets tests row) refl (rows_left tests es)
  where
    by : (b : Bool) → meets tests row ≡ b → rows_of (remade (λ row. None) tests es) ≡ other_rows tests (rows_of es)
        → rows_of (remade (λ row. None) tests ((q, Some row) ∷ es)) ≡ other_rows tests (row ∷ rows_of es)
    by true e ih = rw e ih
    by false e ih = rw e (ap (λ rows. row ∷ rows) ih)

pub filed_left : (tests : List Test) (es : Slots) → IsFiled es → IsFiled (remade (λ row. None) tests es)
filed_left tests [] f = tt
filed_left tests ((q, None) ∷ es) f = (tt, filed_left tests es f.1)
filed_left tests ((q, Some row) ∷ es) f = (by (meets tests row) refl, filed_left tests es f.1)
  where
    by : (b : Bool) → meets tests row ≡ b → IsFiledSlot q (remade_slot (λ row. None) tests (Some row))
    by true e = rw e tt
    by false e = rw e f.0

pub with_puts-push : (ps : Slots) (p : List ℕ × Slot) (es : Slots) → with_puts (ps ++ p ∷ []) es ≡ with_puts ps (replaced p.0 p.1 es)
with_puts-push [] p es = refl
with_puts-push (x ∷ ps) p es = ap (replaced x.0 x.1) (with_puts-push ps p es)
