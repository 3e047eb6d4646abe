-- A table from its first row on, and what statements do with its rows.
use Rattle.std.proofs.Common.{◌≡◌, ℕ, zero, suc, ◌<◌, Bool, true, false, List, [], ◌∷◌, Option, Some, None, refl, ap, subst, ◌∙◌, arith}
use Rattle.std.specs.Prelude.{not}
use Rattle.std.specs.Option.{option_map}
use Rattle.std.specs.Ordering.{ordering_reverse}
use Rattle.std.specs.declared.cmp.Ordering.{Ordering}
use Rattle.std.specs.declared.cmp.Ordering.TheVariants.{Less, Equal, Greater}
use Rattle.basis.specs.Lists.{nth}
use Rattle.basis.proofs.Options.{some_is, none_is_not}
use Rattle.script_tree.specs.Datum.{Datum}
use Rattle.script_tree.specs.Fit.{IsRow, IsTable}
use Rattle.script_tree.specs.Order.{compare}
use Rattle.script_tree.specs.OrderLaws.{compare_total}
use Rattle.script_tree.specs.Transactions.{Row, Table, key, with_row, other_rows, meets}
use Rattle.script_tree.specs.declared.transaction.Test.{Test}

-- before all keys of these rows
abbrev pub IsBelow : Datum → Table → Type 0
IsBelow k [] = Unit {0}
IsBelow k (x ∷ xs) = (compare k (key x) ≡ Less) × IsBelow k xs

abbrev pub AreRows : ℕ → Table → Type 0
AreRows w [] = Unit {0}
AreRows w (x ∷ xs) = IsRow w x × IsBelow (key x) xs × AreRows w xs

below_of : (k : Datum) (xs : Table) → ((j : ℕ) (b : Row) → nth xs j ≡ Some b → compare k (key b) ≡ Less) → IsBelow k xs
below_of k [] h = tt
below_of k (x ∷ xs) h = (h 0 x refl, below_of k xs (λ j b e. h (suc j) b e))

below_at : (k : Datum) (xs : Table) (j : ℕ) (b : Row) → IsBelow k xs → nth xs j ≡ Some b → compare k (key b) ≡ Less
below_at k [] j b h e = absurd (none_is_not e)
below_at k (x ∷ xs) zero b h e = subst (λ r. compare k (key r) ≡ Less) (some_is e) h.0
below_at k (x ∷ xs) (suc j) b h e = below_at k xs j b h.1 e

pub rows_of_table : (w : ℕ) (xs : Table) → IsTable w xs → AreRows w xs
rows_of_table w [] t = tt
rows_of_table w (x ∷ xs) t = (
  t.rows 0 x refl,
  below_of (key x) xs (λ j b e. t.in_order 0 (suc j) x b (omega arith) refl e),
  rows_of_table w xs (record {
    rows = λ i row e. t.rows (suc i) row e;
    in_order = λ i j a b l e f. t.in_order (suc i) (suc j) a b (omega arith) e f;
  }),
)

row_at : (w : ℕ) (xs : Table) (i : ℕ) (row : Row) → AreRows w xs → nth xs i ≡ Some row → IsRow w row
row_at w [] i row h e = absurd (none_is_not e)
row_at w (x ∷ xs) zero row h e = subst (IsRow w) (some_is e) h.0
row_at w (x ∷ xs) (suc i) row h e = row_at w xs i row h.2 e

order_at : (w : ℕ) (xs : Table) (i j : ℕ) (a b : Row) → AreRows w xs → i < j → nth xs i ≡ Some a → nth xs j ≡ Some b → compare (key a) (key b) ≡ Less
order_at w [] i j a b h l e f = absurd (none_is_not e)
order_at w (x ∷ xs) i zero a b h l e f = absurd (omega arith)
order_at w (x ∷ xs) zero (suc j) a b h l e f = subst (λ r. compare (key r) (key b) ≡ Less) (some_is e) (below_at (key x) xs j b h.1 f)
order_at w (x ∷ xs) (suc i) (suc j) a b h l e f = order_at w xs i j a b h.2 (omega arith) e f

pub table_of_rows : (w : ℕ) (xs : Table) → AreRows w xs → IsTable w xs
table_of_rows w xs h = record {
  rows = λ i row e. row_at w xs i row h e;
  in_order = λ i j a b l e f. order_at w xs i j a b h l e f;
}

-- ---- a row more

below_from : (k q : Datum) (xs : Table) → compare k q ≡ Less → IsBelow q xs → IsBelow k xs
below_from k q [] e b = tt
below_from k q (x ∷ xs) e b = (compare_total.trans k q (key x) e b.0, below_from k q xs e b.1)

-- a list that begins with x goes on with a list
mapped : (x : Row) (o : Option Table) (ys : Table) → option_map (λ zs. x ∷ zs) o ≡ Some ys → (zs : Table) × (o ≡ Some zs) × (x ∷ zs ≡ ys)
mapped x None ys e = absurd (none_is_not e)
mapped x (Some zs) ys e = (zs, refl, some_is e)

greater_less : (a b : Datum) → compare a b ≡ Greater → compare b a ≡ Less
greater_less a b e = compare_total.antisymm b a ∙ ap ordering_reverse e

below_by : (k : Datum) (r x : Row) (xs ys : Table) → compare k (key r) ≡ Less → IsBelow k (x ∷ xs)
    → ((zs : Table) → with_row r xs ≡ Some zs → IsBelow k zs) → (o : Ordering) → compare (key r) (key x) ≡ o → with_row r (x ∷ xs) ≡ Some ys → IsBelow k ys
below_by k r x xs ys l b ih Less p e = subst (IsBelow k) (some_is (rw p at e)) (l, b)
below_by k r x xs ys l b ih Equal p e = absurd (none_is_not (rw p at e))
below_by k r x xs ys l b ih Greater p e =
    let m = mapped x (with_row r xs) ys (rw p at e) in
    subst (IsBelow k) m.2 (b.0, ih m.0 m.1)

below_with : (k : Datum) (r : Row) (xs ys : Table) → compare k (key r) ≡ Less → IsBelow k xs → with_row r xs ≡ Some ys → IsBelow k ys
below_with k r [] ys l b e = subst (IsBelow k) (some_is e) (l, tt)
below_with k r (x ∷ xs) ys l b e = below_by k r x xs ys l b (λ zs f. below_with k r xs zs l b.1 f) (compare (key r) (key x)) refl e

rows_by : (w : ℕ) (r x : Row) (xs ys : Table) → IsRow w r → AreRows w (x ∷ xs)
    → ((zs : Table) → with_row r xs ≡ Some zs → AreRows w zs) → (o : Ordering) → compare (key r) (key x) ≡ o → with_row r (x ∷ xs) ≡ Some ys → AreRows w ys
rows_by w r x xs ys h t ih Less p e = subst (AreRows w) (some_is (rw p at e)) (h, (p, below_from (key r) (key x) xs p t.1), t)
rows_by w r x xs ys h t ih Equal p e = absurd (none_is_not (rw p at e))
rows_by w r x xs ys h t ih Greater p e =
    let m = mapped x (with_row r xs) ys (rw p at e) in
    subst (AreRows w) m.2 (t.0, below_with (key x) r xs m.0 (greater_less (key r) (key x) p) t.1 m.1, ih m.0 m.1)

pub rows_with : (w : ℕ) (r : Row) (xs ys : Table) → IsRow w r → AreRows w xs → with_row r xs ≡ Some ys → AreRows w ys
rows_with w r [] ys h t e = subst (AreRows w) (some_is e) (h, tt, tt)
rows_with w r (x ∷ xs) ys h t e = rows_by w r x xs ys h t (λ zs f. rows_with w r xs zs h t.2 f) (compare (key r) (key x)) refl e

-- ---- rows less

below_others : (k : Datum) (tests : List Test) (xs : Table) → IsBelow k xs → IsBelow k (other_rows tests xs)
below_others k tests [] b = tt
below_others k tests (x ∷ xs) b = by (below_others k tests xs b.1) (not (meets tests x)) refl
  where
    by : IsBelow k (other_rows tests xs) → (kept : Bool) → not (meets tests x) ≡ kept → IsBelow k (other_rows tests (x ∷ xs))
    by ih true p = rw p (b.0, ih)
    by ih false p = rw p ih

pub rows_left : (w : ℕ) (tests : List Test) (xs : Table) → AreRows w xs → AreRows w (other_rows tests xs)
rows_left w tests [] t = tt
rows_left w tests (x ∷ xs) t = by (rows_left w tests xs t.2) (not (meets tests x)) refl
  where
    by : AreRows w (other_rows tests xs) → (kept : Bool) → not (meets tests x) ≡ kept → AreRows w (other_rows tests (x ∷ xs))
    by ih true p = rw p (t.0, below_others (key x) tests xs t.1, ih)
    by ih false p = rw p ih
