-- When statements fit tables of these widths, the width of a table being how many columns it has.
use Rattle.std.specs.Prelude.{◌≡◌, ◌<◌, ℕ, List, [], ◌∷◌, length, Some}
use Rattle.basis.specs.Lists.{nth}
use Rattle.script_tree.specs.Datum.{IsWithinLimits}
use Rattle.script_tree.specs.Fit.{IsRow}
use Rattle.script_tree.specs.Transactions.{Row}
use Rattle.script_tree.specs.declared.transaction.Test.{Test}
use Rattle.script_tree.specs.declared.transaction.Change.{Change}
use Rattle.script_tree.specs.declared.transaction.Statement.{Statement}
use Rattle.script_tree.specs.declared.transaction.Statement.TheVariants.{Insert, Select, Update, Delete, Expect}

-- it is a row of the table at this number
abbrev pub FitsRow : List ℕ → ℕ → Row → Type 0
FitsRow widths t row = (width : ℕ) × (nth widths t ≡ Some width) × IsRow width row

-- each is one of the columns
abbrev pub FitColumns : ℕ → List ℕ → Type 0
FitColumns width [] = Unit {0}
FitColumns width (c ∷ cs) = (c < width) × FitColumns width cs

-- each test compares one of the columns with a value of a script
abbrev pub FitTests : ℕ → List Test → Type 0
FitTests width [] = Unit {0}
FitTests width (t ∷ ts) = (t.column < width) × IsWithinLimits t.value × FitTests width ts

-- each change gives one of the columns a value of a script, and not the key
abbrev pub FitChanges : ℕ → List Change → Type 0
FitChanges width [] = Unit {0}
FitChanges width (c ∷ cs) =
    (0 < c.column) × (c.column < width) × IsWithinLimits c.value × FitChanges width cs

-- a row that is inserted is one of the table; there is a column to select, and a change to make
abbrev pub FitsWidth : ℕ → Statement → Type 0
FitsWidth width (Insert t row) = IsRow width row
FitsWidth width (Select t columns tests) =
    (0 < length columns) × FitColumns width columns × FitTests width tests
FitsWidth width (Update t changes tests) =
    (0 < length changes) × FitChanges width changes × FitTests width tests
FitsWidth width (Delete t tests) = FitTests width tests
FitsWidth width (Expect n t tests) = FitTests width tests

-- the number of its table
abbrev pub table_of : Statement → ℕ
table_of (Insert t row) = t
table_of (Select t columns tests) = t
table_of (Update t changes tests) = t
table_of (Delete t tests) = t
table_of (Expect n t tests) = t

-- its table is there, and it fits that one's width
abbrev pub FitsStatement : List ℕ → Statement → Type 0
FitsStatement widths s = (width : ℕ) × (nth widths (table_of s) ≡ Some width) × FitsWidth width s

-- each of the statements fits
abbrev pub FitStatements : List ℕ → List Statement → Type 0
FitStatements widths [] = Unit {0}
FitStatements widths (s ∷ ss) = FitsStatement widths s × FitStatements widths ss

-- a transaction has a statement
abbrev pub FitsTransaction : List ℕ → List Statement → Type 0
FitsTransaction widths ss = (0 < length ss) × FitStatements widths ss
