-- Tests of what fits are exact.
use Rattle.std.proofs.Common.{◌≡◌, ℕ, zero, suc, List, [], ◌∷◌, Some, length, refl, subst}
use Rattle.basis.specs.Lists.{nth}
use Rattle.basis.proofs.Options.{some_is, none_is_not}
use Rattle.script_tree.specs.ActLimits.{AreWithinLimits}
use Rattle.script_tree.specs.Datum.{Datum, IsWithinLimits}
use Rattle.script_tree.specs.Fit.{IsRow, IsRowKey}
use Rattle.script_tree.specs.Transactions.{Row, key}
use Rattle.script_fit.specs.FitsTransaction.{}

each_within : (ds : List Datum) → ((i : ℕ) (d : Datum) → nth ds i ≡ Some d → IsWithinLimits d) → AreWithinLimits ds
each_within [] h = tt
each_within (d ∷ ds) h = (h 0 d refl, each_within ds (λ i x e. h (suc i) x e))

within_at : (ds : List Datum) (i : ℕ) (d : Datum) → AreWithinLimits ds → nth ds i ≡ Some d → IsWithinLimits d
within_at [] i d h e = absurd (none_is_not e)
within_at (x ∷ ds) zero d h e = subst IsWithinLimits (some_is e) h.0
within_at (x ∷ ds) (suc i) d h e = within_at ds i d h.1 e

-- the parts of a row that are tested
pub row_parts : (width : ℕ) (row : Row) → IsRow width row → (length row ≡ width) × IsRowKey (key row) × AreWithinLimits row
row_parts width row h = (h.columns, h.key, each_within row h.values)

pub row_whole : (width : ℕ) (row : Row) → length row ≡ width → IsRowKey (key row) → AreWithinLimits row → IsRow width row
row_whole width row c k v = record { columns = c; key = k; values = λ i d e. within_at row i d v e }
