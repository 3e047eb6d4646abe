-- Copies of a transaction's answer.
use Rattle.std.proofs.Common.{◌≡◌, ◌∙◌, ℕ, List, replicate, ap, sym}
use Rattle.script_tree.specs.Datum.{Datum}
use Rattle.script_tree.specs.Transactions.{Table, after_transaction}
use Rattle.script_tree.specs.declared.transaction.Statement.{Statement}
use Rattle.object_tables.specs.TransactionEnds.{answer_of}
use Rattle.object_tables.specs.Answered.{AnswersTimes, ComesTo}
use Rattle.object_tables.specs.declared.tables.Answered.{Answered}
use Rattle.object_tables.proofs.Runs.{answered}

pub gives : (count : ℕ) (ss : List Statement) (old new : List Table) (a : Answered) → ComesTo count ss old new a → AnswersTimes count ss old new a.answers
gives count ss old new a c =
    let e : after_transaction ss old ≡ (new, answer_of a.outcome) = answered ss old new a.outcome c.outcome in
    record {
      left = ap (λ (r : List Table × Datum). r.0) e;
      given = c.answers ∙ ap (λ (r : List Table × Datum). replicate count r.1) (sym e);
    }
