-- What fits a program and has its widths may be spelled.
use Rattle.std.proofs.Common.{◌≡◌, ℕ, suc, Bool, List, [], ◌∷◌, Some, refl}
use Rattle.basis.specs.Lists.{nth}
use Rattle.script_tree.specs.Datum.{Datum, data_of, IsWithinLimits}
use Rattle.script_tree.specs.declared.operation.Act.{Act}
use Rattle.script_tree.specs.declared.operation.Act.TheVariants.{Read, Write, Get, Put, Remove, Transact, Now, Roll}
use Rattle.script_tree.specs.declared.operation.Object.{Object}
use Rattle.script_tree.specs.declared.operation.Object.TheVariants.{Register, Store, Tables, Clock, Dice}
use Rattle.script_tree.specs.declared.transaction.Test.{Test}
use Rattle.script_tree.specs.declared.transaction.Change.{Change}
use Rattle.script_tree.specs.declared.transaction.Statement.{Statement}
use Rattle.script_tree.specs.declared.transaction.Statement.TheVariants.{Insert, Select, Update, Delete, Expect}
use Rattle.script_fit.specs.FitsOperation.{FitsAct}
use Rattle.script_fit.specs.FitsTransaction.{FitsWidth, FitStatements, FitTests, FitChanges}
use Rattle.wire.specs.Spellings.{HaveWideNumbers, value_field}
use Rattle.report_format.specs.Operations.{u32_field, test_field, change_field, statement_field, IsStatement, IsAct}
use Rattle.report_format.specs.Parts.{AllAllowed}
use Rattle.trace_and_report.specs.Widths.{Each, IsWide, IsWideTest, IsWideChange, IsWideStatement, IsWideAct}

pub numbers_allowed : (ns : List ℕ) → Each IsWide ns → AllAllowed u32_field ns
numbers_allowed [] each = tt
numbers_allowed (n ∷ ns) (first, each) = (first, numbers_allowed ns each)

tests_allowed : (width : ℕ) (ts : List Test) → FitTests width ts → Each IsWideTest ts → AllAllowed test_field ts
tests_allowed width [] fit each = tt
tests_allowed width (t ∷ ts) (within, limits, fit) ((column, value), each) = ((column, (tt, (limits, value))), tests_allowed width ts fit each)

changes_allowed : (width : ℕ) (cs : List Change) → FitChanges width cs → Each IsWideChange cs → AllAllowed change_field cs
changes_allowed width [] fit each = tt
changes_allowed width (c ∷ cs) (behind, within, limits, fit) ((column, value), each) = ((column, (limits, value)), changes_allowed width cs fit each)

row_allowed : (row : List Datum) → ((i : ℕ) (d : Datum) → nth row i ≡ Some d → IsWithinLimits d) → HaveWideNumbers (data_of row) → AllAllowed value_field row
row_allowed [] limits wide = tt
row_allowed (d ∷ ds) limits (first, wide) = ((limits 0 d refl, first), row_allowed ds (λ i e is. limits (suc i) e is) wide)

statement_allowed : (width : ℕ) (s : Statement) → FitsWidth width s → IsWideStatement s → IsStatement s
statement_allowed width (Insert table row) fits (here, (count, wide)) = (here, (count, row_allowed row fits.values wide))
statement_allowed width (Select table columns tests) (some, fit, fit_tests) (here, (count, wide), (count_tests, wide_tests)) =
    (here, ((count, numbers_allowed columns wide), (count_tests, tests_allowed width tests fit_tests wide_tests)))
statement_allowed width (Update table changes tests) (some, fit, fit_tests) (here, (count, wide), (count_tests, wide_tests)) =
    (here, ((count, changes_allowed width changes fit wide), (count_tests, tests_allowed width tests fit_tests wide_tests)))
statement_allowed width (Delete table tests) fit (here, (count, wide)) = (here, (count, tests_allowed width tests fit wide))
statement_allowed width (Expect n table tests) fit (number, here, (count, wide)) = (number, (here, (count, tests_allowed width tests fit wide)))

statements_allowed : (widths : List ℕ) (ss : List Statement) → FitStatements widths ss → Each IsWideStatement ss → AllAllowed statement_field ss
statements_allowed widths [] fit each = tt
statements_allowed widths (s ∷ ss) ((width, there, fits), fit) (first, each) = (statement_allowed width s fits first, statements_allowed widths ss fit each)

pub act_allowed : (stores : List ℕ → Bool) (widths : List ℕ) (o : Object) (a : Act) → FitsAct stores widths o a → IsWideAct a → IsAct a
act_allowed stores widths o Read fits wide = tt
act_allowed stores widths o (Get k) fits wide = wide
act_allowed stores widths o (Remove k) fits wide = wide
act_allowed stores widths o Now fits wide = tt
act_allowed stores widths o (Roll bound) fits wide = wide
act_allowed stores widths (Register x) (Write d) fits wide = (fits.1, wide)
act_allowed stores widths (Store s) (Write d) fits wide = absurd fits.1
act_allowed stores widths Tables (Write d) fits wide = absurd fits
act_allowed stores widths Clock (Write d) fits wide = absurd fits
act_allowed stores widths Dice (Write d) fits wide = absurd fits
act_allowed stores widths (Register x) (Put k d) fits wide = absurd fits
act_allowed stores widths (Store s) (Put k d) fits wide = (wide.0, (fits.1.1, wide.1))
act_allowed stores widths Tables (Put k d) fits wide = absurd fits
act_allowed stores widths Clock (Put k d) fits wide = absurd fits
act_allowed stores widths Dice (Put k d) fits wide = absurd fits
act_allowed stores widths (Register x) (Transact ss) fits wide = absurd fits
act_allowed stores widths (Store s) (Transact ss) fits wide = absurd fits.1
act_allowed stores widths Tables (Transact ss) fits wide = (wide.0, statements_allowed widths ss fits.1 wide.1)
act_allowed stores widths Clock (Transact ss) fits wide = absurd fits
act_allowed stores widths Dice (Transact ss) fits wide = absurd fits
