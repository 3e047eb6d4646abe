-- How the code keeps counts.
use Rattle.std.specs.Prelude.{◌≡◌, ℕ, Option}
use Rattle.basis.specs.Lists.{first_answer}
use Rattle.request_tables.specs.IdTables.{number_of}
use Rattle.period.specs.declared.report.Report.{Report}
use Rattle.audit_meaning.specs.Spots.{operations_in}
use Rattle.log_checker.specs.declared.counting.OperationCounts.{OperationCounts}

-- how many operations a request has by its count
abbrev pub operations_of : OperationCounts → ℕ → Option ℕ
operations_of counts r = number_of counts.operations r

-- They are the counts of the report.
abbrev pub IsCounted : Report → OperationCounts → Type 0
IsCounted report counts = (r : ℕ) → operations_of counts r ≡ first_answer (operations_in r) report.counts
