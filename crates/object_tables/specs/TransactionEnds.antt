-- What a transaction comes to, by the definitions of script_tree.
use Rattle.std.specs.Prelude.{◌≡◌, ℕ, ◌+◌, ◌<◌, Bool, true, false, List, Option, Some, None, take, length}
use Rattle.std.specs.Option.{option_map}
use Rattle.basis.specs.Lists.{with_nth}
use Rattle.script_tree.specs.Datum.{Datum, null, list, data_of}
use Rattle.script_tree.specs.Transactions.{Row, Table, table_at, with_row, after_statement, after_statements, after_transaction}
use Rattle.script_tree.specs.declared.transaction.Statement.{Statement}
use Rattle.object_tables.specs.declared.tables.TransactionEnd.{TransactionEnd}
use Rattle.object_tables.specs.declared.tables.TransactionEnd.TheVariants.{Committed, Aborted}

-- the statement at i is the first that aborts
pub record AbortsAt (ss : List Statement) (old : List Table) (i : ℕ) : Type 0 where
  pub within : i < length ss
  pub before : (r : List Table × List Datum) × (after_statements (take i ss) old ≡ Some r)
  pub there : after_statements (take (i + 1) ss) old ≡ None
  pub all : after_statements ss old ≡ None

-- what running them one after another comes to
abbrev pub IsRun : List Statement → List Table → List Table → TransactionEnd → Type 0
IsRun ss old new (Committed answers) = after_statements ss old ≡ Some (new, answers)
IsRun ss old new (Aborted i) = AbortsAt ss old i

-- what the transaction comes to
abbrev pub IsTransactionEnd : List Statement → List Table → List Table → TransactionEnd → Type 0
IsTransactionEnd ss old new (Committed answers) = after_statements ss old ≡ Some (new, answers)
IsTransactionEnd ss old new (Aborted i) = AbortsAt ss old i × (new ≡ old)

-- the answer of a transaction that came to this: those of its statements, or null where one aborted
abbrev pub answer_of : TransactionEnd → Datum
answer_of (Committed answers) = list (data_of answers)
answer_of (Aborted i) = null

-- the same by what a transaction comes to in one
abbrev pub IsAnswer : List Statement → List Table → List Table → TransactionEnd → Type 0
IsAnswer ss old new outcome = after_transaction ss old ≡ (new, answer_of outcome)

-- ---- one statement

-- the tables with a row more, where its key isn't there
abbrev pub with_row_at : ℕ → Row → List Table → Option (List Table)
with_row_at t row tables =
    option_map (λ rows. with_nth t rows tables) (with_row row (table_at t tables))

-- the row was inserted, or its key is there
abbrev pub IsInserted : ℕ → Row → List Table → List Table → Bool → Type 0
IsInserted t row old new true = with_row_at t row old ≡ Some new
IsInserted t row old new false = (with_row_at t row old ≡ None) × (new ≡ old)

-- the statement makes these tables of those, with this answer; nothing where it aborts
abbrev pub Runs : Statement → List Table → List Table → Option Datum → Type 0
Runs s old new answer = after_statement s old ≡ option_map (λ a. (new, a)) answer
