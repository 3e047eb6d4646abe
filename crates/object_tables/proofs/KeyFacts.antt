-- The row of a key is what its slot holds.
use Rattle.std.proofs.Common.{◌≡◌, ◌∙◌, ℕ, List, [], ◌∷◌, Some, None, refl, sym, ap}
use Rattle.std.specs.declared.cmp.Ordering.{Ordering}
use Rattle.std.specs.declared.cmp.Ordering.TheVariants.{Less, Equal, Greater}
use Rattle.std.specs.List.Sorted.{IsStrictlySortedBy}
use Rattle.std.specs.Map.{keys_of}
use Rattle.std.proofs.lemmas.Map.Keys.{sorted_head, sorted_tail}
use Rattle.script_tree.specs.Datum.{text}
use Rattle.script_tree.specs.Order.{compare}
use Rattle.script_tree.specs.Transactions.{Row, key}
use Rattle.object_tables.specs.Keys.{row_at, or_none}
use Rattle.object_tables.specs.Slots.{Slots, by_bytes, slot_at, rows_of, IsFiled}
use Rattle.object_tables.proofs.Insert.{IsBelow, below_too}

at_key : (k q : List ℕ) (x : Row) → key x ≡ text q → compare (text k) (key x) ≡ by_bytes k q
at_key k q x e = ap (compare (text k)) e

none_below : (k : List ℕ) (es : Slots) → IsBelow k es → IsFiled es → row_at k (rows_of es) ≡ None
none_below k [] b f = refl
none_below k ((q, None) ∷ es) b f = none_below k es b.1 f.1
none_below k ((q, Some x) ∷ es) b f = rw (at_key k q x f.0 ∙ b.0) (none_below k es b.1 f.1)

abbrev IsThere : List ℕ → Slots → Type 0
IsThere k es = or_none (slot_at k es) ≡ row_at k (rows_of es)

at_empty : (k q : List ℕ) (es : Slots) → IsBelow q es → IsFiled es → IsThere k es → (o : Ordering) → by_bytes k q ≡ o → IsThere k ((q, None) ∷ es)
at_empty k q es b f ih Less p = rw p ih
at_empty k q es b f ih Equal p = rw p (sym (none_below k es (below_too k q es p b) f))
at_empty k q es b f ih Greater p = rw p ih

at_row : (k q : List ℕ) (x : Row) (es : Slots) → key x ≡ text q → IsThere k es → (o : Ordering) → by_bytes k q ≡ o → IsThere k ((q, Some x) ∷ es)
at_row k q x es e ih Less p = rw (at_key k q x e, p) ih
at_row k q x es e ih Equal p = rw (at_key k q x e, p) refl
at_row k q x es e ih Greater p = rw (at_key k q x e, p) ih

pub row_there : (k : List ℕ) (es : Slots) → IsStrictlySortedBy by_bytes (keys_of es) → IsFiled es → IsThere k es
row_there k [] o f = refl
row_there k ((q, None) ∷ es) o f = at_empty k q es (sorted_head by_bytes q (keys_of es) o) f.1
    (row_there k es (sorted_tail by_bytes q (keys_of es) o) f.1) (by_bytes k q) refl
row_there k ((q, Some x) ∷ es) o f = at_row k q x es f.0 (row_there k es (sorted_tail by_bytes q (keys_of es) o) f.1) (by_bytes k q) refl
