-- When statements are of tables of these widths. The sizes of their values aren't asked about here.
use Rattle.std.specs.Prelude.{◌≡◌, ◌<◌, ℕ, List, [], ◌∷◌, length, Some}
use Rattle.basis.specs.Lists.{nth}
use Rattle.script_tree.specs.Fit.{IsRowKey}
use Rattle.script_tree.specs.Transactions.{Row, key}
use Rattle.script_tree.specs.declared.transaction.Test.{Test}
use Rattle.script_tree.specs.declared.transaction.Change.{Change}
use Rattle.script_tree.specs.declared.transaction.Statement.{Statement}
use Rattle.script_tree.specs.declared.transaction.Statement.TheVariants.{Insert, Select, Update, Delete, Expect}
use Rattle.script_fit.specs.FitsTransaction.{FitColumns, table_of}

-- A row has a value in each of so many columns, the first a key.
pub record IsRowOf (width : ℕ) (row : Row) : Type 0 where
  pub columns : length row ≡ width
  pub key : IsRowKey (key row)

-- each test is of one of the columns
abbrev pub AreTestsOf : ℕ → List Test → Type 0
AreTestsOf width [] = Unit {0}
AreTestsOf width (t ∷ ts) = (t.column < width) × AreTestsOf width ts

-- each change is to one of the columns, and not to the key
abbrev pub AreChangesOf : ℕ → List Change → Type 0
AreChangesOf width [] = Unit {0}
AreChangesOf width (c ∷ cs) = (0 < c.column) × (c.column < width) × AreChangesOf width cs

-- the statement is of a table of so many columns
abbrev pub IsOfWidth : ℕ → Statement → Type 0
IsOfWidth width (Insert t row) = IsRowOf width row
IsOfWidth width (Select t columns tests) =
    (0 < length columns) × FitColumns width columns × AreTestsOf width tests
IsOfWidth width (Update t changes tests) =
    (0 < length changes) × AreChangesOf width changes × AreTestsOf width tests
IsOfWidth width (Delete t tests) = AreTestsOf width tests
IsOfWidth width (Expect n t tests) = AreTestsOf width tests

-- its table is there, and it is of that one's columns
abbrev pub IsStatementOf : List ℕ → Statement → Type 0
IsStatementOf widths s = (width : ℕ) × (nth widths (table_of s) ≡ Some width) × IsOfWidth width s

-- each of the statements is, which may be none
abbrev pub IsTransactionOf : List ℕ → List Statement → Type 0
IsTransactionOf widths [] = Unit {0}
IsTransactionOf widths (s ∷ ss) = IsStatementOf widths s × IsTransactionOf widths ss
