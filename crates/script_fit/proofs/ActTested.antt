-- An act that passes the test is one of its object.
use Rattle.std.proofs.Common.{◌≡◌, ℕ, Bool, true, ◌&&◌, List, [], ◌∷◌, length, Option, Some, None, refl, sym, true≢false, nat_eq, nat_lt}
use Rattle.std.specs.List.{list_all}
use Rattle.std.proofs.lemmas.Bool.{and_parts, eqb-true, ltb-true}
use Rattle.basis.specs.Lists.{nth}
use Rattle.script_tree.specs.Transactions.{key}
use Rattle.script_tree.specs.declared.operation.Act.{Act}
use Rattle.script_tree.specs.declared.operation.Act.TheVariants.{Read, Write, Get, Put, Remove, Transact, Now, Roll}
use Rattle.script_tree.specs.declared.operation.Object.{Object}
use Rattle.script_tree.specs.declared.operation.Object.TheVariants.{Register, Store, Tables, Clock, Dice}
use Rattle.script_tree.specs.declared.transaction.Change.{Change}
use Rattle.script_tree.specs.declared.transaction.Statement.{Statement}
use Rattle.script_tree.specs.declared.transaction.Statement.TheVariants.{Insert, Select, Update, Delete, Expect}
use Rattle.script_tree.specs.declared.transaction.Test.{Test}
use Rattle.script_fit.specs.ActOf.{IsActOf}
use Rattle.script_fit.specs.FitsTransaction.{table_of}
use Rattle.script_fit.specs.OfProgram.{is_key, is_row_key, tests_are_of, changes_are_of, is_of_width, if_there, statement_is_of, is_act_of}
use Rattle.script_fit.specs.TransactionOf.{AreTestsOf, AreChangesOf, IsOfWidth, IsStatementOf, IsTransactionOf}
use Rattle.script_fit.proofs.OfProgram.{key_tells, row_key_tells, columns_tell, bound_tells}

tests_tested : (width : ℕ) (ts : List Test) → tests_are_of width ts ≡ true → AreTestsOf width ts
tests_tested width [] e = tt
tests_tested width (t ∷ ts) e =
    let p = and_parts (nat_lt t.column width) (tests_are_of width ts) e in
    (ltb-true t.column width p.0, tests_tested width ts p.1)

changes_tested : (width : ℕ) (cs : List Change) → changes_are_of width cs ≡ true → AreChangesOf width cs
changes_tested width [] e = tt
changes_tested width (c ∷ cs) e =
    let p = and_parts (nat_lt 0 c.column && nat_lt c.column width) (changes_are_of width cs) e in
    let q = and_parts (nat_lt 0 c.column) (nat_lt c.column width) p.0 in
    (ltb-true 0 c.column q.0, ltb-true c.column width q.1, changes_tested width cs p.1)

width_tested : (s : Statement) (width : ℕ) → is_of_width s width ≡ true → IsOfWidth width s
width_tested (Insert t row) width e =
    let p = and_parts (nat_eq (length row) width) (is_row_key (key row)) e in
    record { columns = eqb-true (length row) width p.0; key = (row_key_tells (key row)).1 p.1 }
width_tested (Select t columns tests) width e =
    let p = and_parts (nat_lt 0 (length columns)) _ e in
    let q = and_parts (list_all (λ c. nat_lt c width) columns) (tests_are_of width tests) p.1 in
    (ltb-true 0 (length columns) p.0, (columns_tell width columns).1 q.0, tests_tested width tests q.1)
width_tested (Update t changes tests) width e =
    let p = and_parts (nat_lt 0 (length changes)) _ e in
    let q = and_parts (changes_are_of width changes) (tests_are_of width tests) p.1 in
    (ltb-true 0 (length changes) p.0, changes_tested width changes q.0, tests_tested width tests q.1)
width_tested (Delete t tests) width e = tests_tested width tests e
width_tested (Expect n t tests) width e = tests_tested width tests e

statement_tested : (widths : List ℕ) (s : Statement) → statement_is_of widths s ≡ true → IsStatementOf widths s
statement_tested widths s = by (nth widths (table_of s)) refl
  where
    by : (o : Option ℕ) → nth widths (table_of s) ≡ o → if_there (is_of_width s) o ≡ true → IsStatementOf widths s
    by None e t = absurd (true≢false (sym t))
    by (Some w) e t = (w, e, width_tested s w t)

pub transaction_tested : (widths : List ℕ) (ss : List Statement) → list_all (statement_is_of widths) ss ≡ true → IsTransactionOf widths ss
transaction_tested widths [] e = tt
transaction_tested widths (s ∷ ss) e =
    let p = and_parts (statement_is_of widths s) (list_all (statement_is_of widths) ss) e in
    (statement_tested widths s p.0, transaction_tested widths ss p.1)

pub act_tested : (stores : List ℕ → Bool) (widths : List ℕ) (o : Object) (a : Act) → is_act_of stores widths o a ≡ true → IsActOf stores widths o a
act_tested stores widths (Register x) Read e = (key_tells x).1 e
act_tested stores widths (Register x) (Write d) e = (key_tells x).1 e
act_tested stores widths (Store s) (Get k) e = let p = and_parts (stores s) (is_key k) e in (p.0, (key_tells k).1 p.1)
act_tested stores widths (Store s) (Put k d) e = let p = and_parts (stores s) (is_key k) e in (p.0, (key_tells k).1 p.1)
act_tested stores widths (Store s) (Remove k) e = let p = and_parts (stores s) (is_key k) e in (p.0, (key_tells k).1 p.1)
act_tested stores widths Tables (Transact ss) e =
    let p = and_parts (nat_lt 0 (length ss)) (list_all (statement_is_of widths) ss) e in
    transaction_tested widths ss p.1
act_tested stores widths Clock Now e = tt
act_tested stores widths Dice (Roll bound) e = (bound_tells bound).1 e
act_tested stores widths (Register x) a e = absurd (true≢false (sym e))
act_tested stores widths (Store s) a e = absurd (true≢false (sym e))
act_tested stores widths Tables a e = absurd (true≢false (sym e))
act_tested stores widths Clock a e = absurd (true≢false (sym e))
act_tested stores widths Dice a e = absurd (true≢false (sym e))
