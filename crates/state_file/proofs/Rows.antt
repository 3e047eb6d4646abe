-- Rows that are within the limits and have the width of their table fit it.
use Rattle.std.proofs.Common.{◌≡◌, ℕ, [], ◌∷◌, length, true, refl, arith}
use Rattle.std.specs.Prelude.{◌==◌}
use Rattle.std.specs.List.{list_all}
use Rattle.basis.proofs.Booleans.{both-left, both-right}
use Rattle.object_tables.proofs.FitTests.{row_whole}
use Rattle.script_tree.specs.ActLimits.{AreWithinLimits}
use Rattle.script_tree.specs.Datum.{Datum, null, bool, number, text, list, is_within_limits}
use Rattle.script_tree.specs.Fit.{IsRow, IsRowKey}
use Rattle.script_tree.specs.Transactions.{Row, key}
use Rattle.script_tree.specs.declared.limits.TheConstants.{MOST_KEY_BYTES}
use Rattle.state_file.specs.Faults.{is_row_within_limits, is_short}
use Rattle.state_file.specs.Stored.{is_row_of, is_text}
use Rattle.state_file.proofs.Entries.{le_of}

eq_of : (a b : ℕ) → (a == b) ≡ true → a ≡ b
eq_of a b e = grind arith

key_fits : (d : Datum) → is_text d ≡ true → is_short d ≡ true → IsRowKey d
key_fits null is short = absurd cc
key_fits (bool b) is short = absurd cc
key_fits (number n) is short = absurd cc
key_fits (text bytes) is short = (bytes, refl, le_of (length bytes) MOST_KEY_BYTES short)
key_fits (list ds) is short = absurd cc

values_fit : (row : Row) → list_all is_within_limits row ≡ true → AreWithinLimits row
values_fit [] h = tt
values_fit (d ∷ row) h = (
  both-left (is_within_limits d) (list_all is_within_limits row) h,
  values_fit row (both-right (is_within_limits d) (list_all is_within_limits row) h),
)

pub row_fits : (width : ℕ) (row : Row) → is_row_of width row ≡ true → is_row_within_limits row ≡ true → IsRow width row
row_fits width row is within =
    row_whole width row
    (eq_of (length row) width (both-left (length row == width) (is_text (key row)) is))
    (key_fits (key row) (both-right (length row == width) (is_text (key row)) is) (both-right (list_all is_within_limits row) (is_short (key row)) within))
    (values_fit row (both-left (list_all is_within_limits row) (is_short (key row)) within))
