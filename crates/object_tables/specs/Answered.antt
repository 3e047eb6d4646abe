-- What a transaction comes to, with copies of its answer.
use Rattle.std.specs.Prelude.{◌≡◌, ℕ, List, replicate}
use Rattle.std.specs.declared.vec.Vec.{Vec}
use Rattle.script_tree.specs.Datum.{Datum}
use Rattle.script_tree.specs.Transactions.{Table, after_transaction}
use Rattle.script_tree.specs.declared.transaction.Statement.{Statement}
use Rattle.object_tables.specs.TransactionEnds.{IsTransactionEnd, IsRun, answer_of}
use Rattle.object_tables.specs.Storages.{rows_in}
use Rattle.object_tables.specs.declared.undo_log.Storage.{Storage}
use Rattle.object_tables.specs.declared.tables.Answered.{Answered}

-- so many equal answers, the transaction's, which makes these tables of those
pub record AnswersTimes {A : Type 0} (count : ℕ) (ss : List Statement) (old new : List Table) (answers : Vec Datum A) : Type 0 where
  pub left : (after_transaction ss old).0 ≡ new
  pub given : answers.items ≡ replicate count (after_transaction ss old).1

-- running the statements comes to this outcome, with so many copies of the answer
pub record RunsTo (count : ℕ) (ss : List Statement) (old new : Storage) (a : Answered) : Type 0 where
  pub outcome : IsRun ss (rows_in old) (rows_in new) a.outcome
  pub answers : a.answers.items ≡ replicate count (answer_of a.outcome)

-- the transaction does
pub record ComesTo (count : ℕ) (ss : List Statement) (old new : List Table) (a : Answered) : Type 0 where
  pub outcome : IsTransactionEnd ss old new a.outcome
  pub answers : a.answers.items ≡ replicate count (answer_of a.outcome)
