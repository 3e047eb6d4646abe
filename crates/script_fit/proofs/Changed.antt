-- Rows with other values in columns that aren't the key.
use Rattle.std.proofs.Common.{◌≡◌, ℕ, zero, suc, ◌<◌, Bool, true, false, cond, List, [], ◌∷◌, length, Some, refl, sym, ap, subst, ◌∙◌, arith}
use Rattle.basis.specs.Lists.{nth, with_nth}
use Rattle.basis.proofs.Options.{some_is, none_is_not}
use Rattle.script_tree.specs.Datum.{Datum, IsWithinLimits}
use Rattle.script_tree.specs.Fit.{IsRow, IsRowKey}
use Rattle.script_tree.specs.Order.{compare}
use Rattle.script_tree.specs.Transactions.{Row, Table, key, meets, changed_row, updated_rows}
use Rattle.script_tree.specs.declared.transaction.Change.{Change}
use Rattle.script_tree.specs.declared.transaction.Test.{Test}
use Rattle.script_fit.specs.FitsTransaction.{FitChanges}
use Rattle.script_fit.proofs.TableRows.{IsBelow, AreRows}

length_kept : (i : ℕ) (d : Datum) (row : Row) → length (with_nth i d row) ≡ length row
length_kept i d [] = refl
length_kept zero d (x ∷ row) = refl
length_kept (suc i) d (x ∷ row) = ap suc (length_kept i d row)

key_kept : (i : ℕ) (d : Datum) (row : Row) → 0 < i → key (with_nth i d row) ≡ key row
key_kept i d [] l = refl
key_kept zero d (x ∷ row) l = absurd (omega arith)
key_kept (suc i) d (x ∷ row) l = refl

value_in_limits : (i : ℕ) (d : Datum) (row : Row) → IsWithinLimits d → ((j : ℕ) (v : Datum) → nth row j ≡ Some v → IsWithinLimits v)
    → (j : ℕ) (v : Datum) → nth (with_nth i d row) j ≡ Some v → IsWithinLimits v
value_in_limits i d [] l h j v e = absurd (none_is_not e)
value_in_limits zero d (x ∷ row) l h zero v e = subst IsWithinLimits (some_is e) l
value_in_limits zero d (x ∷ row) l h (suc j) v e = h (suc j) v e
value_in_limits (suc i) d (x ∷ row) l h zero v e = h 0 v e
value_in_limits (suc i) d (x ∷ row) l h (suc j) v e = value_in_limits i d row l (λ k u f. h (suc k) u f) j v e

row_with : (w i : ℕ) (d : Datum) (row : Row) → 0 < i → IsWithinLimits d → IsRow w row → IsRow w (with_nth i d row)
row_with w i d row l h r = record {
  columns = length_kept i d row ∙ r.columns;
  key = subst IsRowKey (sym (key_kept i d row l)) r.key;
  values = value_in_limits i d row h r.values;
}

row_changed : (w : ℕ) (cs : List Change) (row : Row) → FitChanges w cs → IsRow w row → IsRow w (changed_row cs row)
row_changed w [] row f r = r
row_changed w (c ∷ cs) row f r = row_changed w cs (with_nth c.column c.value row) f.3 (row_with w c.column c.value row f.0 f.2 r)

key_same : (w : ℕ) (cs : List Change) (row : Row) → FitChanges w cs → key (changed_row cs row) ≡ key row
key_same w [] row f = refl
key_same w (c ∷ cs) row f = key_same w cs (with_nth c.column c.value row) f.3 ∙ key_kept c.column c.value row f.0

module _ (w : ℕ) (cs : List Change) (tests : List Test) (fits : FitChanges w cs) where
  -- a row as it is after an update
  abbrev updated : Row → Row
  updated row = cond (meets tests row) (changed_row cs row) row

  key_updated : (row : Row) → key (updated row) ≡ key row
  key_updated row = by (meets tests row)
    where
      by : (b : Bool) → key (cond b (changed_row cs row) row) ≡ key row
      by true = key_same w cs row fits
      by false = refl

  row_updated : (row : Row) → IsRow w row → IsRow w (updated row)
  row_updated row r = by (meets tests row)
    where
      by : (b : Bool) → IsRow w (cond b (changed_row cs row) row)
      by true = row_changed w cs row fits r
      by false = r

  below_updated : (k : Datum) (xs : Table) → IsBelow k xs → IsBelow k (updated_rows cs tests xs)
  below_updated k [] b = tt
  below_updated k (x ∷ xs) b = (ap (compare k) (key_updated x) ∙ b.0, below_updated k xs b.1)

  pub rows_updated : (xs : Table) → AreRows w xs → AreRows w (updated_rows cs tests xs)
  rows_updated [] t = tt
  rows_updated (x ∷ xs) t =
      (row_updated x t.0, subst (λ k. IsBelow k (updated_rows cs tests xs)) (sym (key_updated x)) (below_updated (key x) xs t.1), rows_updated xs t.2)
