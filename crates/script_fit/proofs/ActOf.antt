-- An act that fits is one of its object, and statements that fit store what is within the limits.
use Rattle.std.proofs.Common.{ℕ, Bool, List, [], ◌∷◌, map}
use Rattle.script_tree.specs.ActLimits.{AreWithinLimits}
use Rattle.script_tree.specs.Fit.{IsRow}
use Rattle.script_tree.specs.Transactions.{Row}
use Rattle.script_tree.specs.declared.operation.Act.{Act}
use Rattle.script_tree.specs.declared.operation.Act.TheVariants.{Read, Write, Get, Put, Remove, Transact}
use Rattle.script_tree.specs.declared.operation.Object.{Object}
use Rattle.script_tree.specs.declared.operation.Object.TheVariants.{Register, Store, Tables, Clock, Dice}
use Rattle.script_tree.specs.declared.transaction.Change.{Change}
use Rattle.script_tree.specs.declared.transaction.Statement.{Statement}
use Rattle.script_tree.specs.declared.transaction.Statement.TheVariants.{Insert, Select, Update, Delete, Expect}
use Rattle.script_tree.specs.declared.transaction.Test.{Test}
use Rattle.script_fit.specs.ActOf.{IsActOf}
use Rattle.script_fit.specs.FitsOperation.{FitsAct}
use Rattle.script_fit.specs.FitsTransaction.{FitTests, FitChanges, FitsWidth, FitStatements, FitsTransaction}
use Rattle.script_fit.specs.StoredLimits.{stored_by, StoreWithinLimits}
use Rattle.script_fit.specs.TransactionOf.{IsRowOf, AreTestsOf, AreChangesOf, IsOfWidth, IsTransactionOf}
use Rattle.script_fit.proofs.OfProgram.{all_within, each_within}

-- ---- rows, tests and changes

pub row_fits : (width : ℕ) (row : Row) → IsRowOf width row → AreWithinLimits row → IsRow width row
row_fits width row h l = record { columns = h.columns; key = h.key; values = each_within row l }

pub row_of : (width : ℕ) (row : Row) → IsRow width row → IsRowOf width row
row_of width row h = record { columns = h.columns; key = h.key }

tests_of : (width : ℕ) (ts : List Test) → FitTests width ts → AreTestsOf width ts
tests_of width [] h = tt
tests_of width (t ∷ ts) h = (h.0, tests_of width ts h.2)

pub changes_fit : (width : ℕ) (cs : List Change) → AreChangesOf width cs → AreWithinLimits (map (λ c. c.value) cs) → FitChanges width cs
changes_fit width [] h l = tt
changes_fit width (c ∷ cs) h l = (h.0, h.1, l.0, changes_fit width cs h.2 l.1)

changes_of : (width : ℕ) (cs : List Change) → FitChanges width cs → AreChangesOf width cs × AreWithinLimits (map (λ c. c.value) cs)
changes_of width [] h = (tt, tt)
changes_of width (c ∷ cs) h = let r = changes_of width cs h.3 in ((h.0, h.1, r.0), (h.2, r.1))

-- ---- statements

width_of : (width : ℕ) (s : Statement) → FitsWidth width s → IsOfWidth width s × AreWithinLimits (stored_by s)
width_of width (Insert t row) h = (row_of width row h, all_within row h.values)
width_of width (Select t columns tests) h = ((h.0, h.1, tests_of width tests h.2), tt)
width_of width (Update t changes tests) h =
    let c = changes_of width changes h.1 in
    ((h.0, c.0, tests_of width tests h.2), c.1)
width_of width (Delete t tests) h = (tests_of width tests h, tt)
width_of width (Expect n t tests) h = (tests_of width tests h, tt)

pub transaction_of : (widths : List ℕ) (ss : List Statement) → FitStatements widths ss → IsTransactionOf widths ss
transaction_of widths [] h = tt
transaction_of widths (s ∷ ss) h = ((h.0.0, h.0.1, (width_of h.0.0 s h.0.2).0), transaction_of widths ss h.1)

pub transaction_stores : (widths : List ℕ) (ss : List Statement) → FitStatements widths ss → StoreWithinLimits ss
transaction_stores widths [] h = tt
transaction_stores widths (s ∷ ss) h = ((width_of h.0.0 s h.0.2).1, transaction_stores widths ss h.1)

pub transaction_fits : (widths : List ℕ) (ss : List Statement) → FitsTransaction widths ss → IsTransactionOf widths ss
transaction_fits widths ss f = transaction_of widths ss f.1

-- ---- acts

pub act_of : (stores : List ℕ → Bool) (widths : List ℕ) (o : Object) (a : Act) → FitsAct stores widths o a → IsActOf stores widths o a
act_of stores widths (Register x) Read f = f
act_of stores widths (Register x) (Write d) f = f.0
act_of stores widths (Store s) (Get k) f = f
act_of stores widths (Store s) (Put k d) f = (f.0, f.1.0)
act_of stores widths (Store s) (Remove k) f = f
act_of stores widths Tables (Transact ss) f = transaction_of widths ss f.1
act_of stores widths Clock a f = f
act_of stores widths Dice a f = f
act_of stores widths (Register x) a f = absurd f
act_of stores widths (Store s) a f = absurd f.1
act_of stores widths Tables a f = absurd f
