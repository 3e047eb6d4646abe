use Rattle.std.proofs.Common.{◌≡◌, ℕ, take}
use Rattle.request_tables.specs.IdTables.{number_of}
use Rattle.basis.specs.Lists.{first_answer}
use Rattle.audit_meaning.specs.Lists.{befores}
use Rattle.audit_meaning.specs.Spots.{operations_in}
use Rattle.log_checker.proofs.CountFacts.{if_second}
use Rattle.log_checker.proofs.Firsts.{NoneBelow}
use Rattle.log_checker.proofs.counting.OperationCounts.read.Given as goal

abbrev pub invariant-loop-count : goal.invariant-loop-count
invariant-loop-count l = record {
  once : NoneBelow if_second (befores l.report.counts) l.count-index;
  told : (r : ℕ) → number_of l.operations r ≡ first_answer (operations_in r) (take l.count-index l.report.counts);
}
