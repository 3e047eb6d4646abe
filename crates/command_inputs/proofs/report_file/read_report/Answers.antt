use Rattle.std.proofs.Common.{◌≡◌, ℕ, List, IfOk, Ok, Err, Result, rules, subst, sym}
use Rattle.std.specs.Result.{IsErr, MatchResult}
use Rattle.wire.specs.declared.fault.Unreadable.{Unreadable}
use Rattle.period.specs.declared.report.Report.{Report}
use Rattle.report_format.specs.Limits.{AreWithinLimits, HasValuesWithinLimits}
use Rattle.report_format.specs.Reports.{DecodesReport}
use Rattle.command_inputs.specs.Faults.{or_memory}
use Rattle.command_inputs.proofs.report_file.read_report.Goals as goal

within : AreWithinLimits → (bytes : List ℕ) (read : Result Report Unreadable) (told : Result Report ℕ) → DecodesReport bytes (or_memory read)
    → MatchResult read (λ report. told ≡ Ok report) (λ fault. IsErr told) → IfOk told HasValuesWithinLimits
within law bytes (Ok report) told decoded is = subst (λ r. IfOk r HasValuesWithinLimits) (sym is) (law report bytes decoded)
within law bytes (Err fault) (Ok report) decoded is = absurd cc
within law bytes (Err fault) (Err at) decoded is = tt

pub returns-clause-limits : goal.returns-clause-limits
returns-clause-limits g c =
    let decoded : DecodesReport c.deref.result.now (or_memory c.in_ok-report.report) = search rules in
    within c.values_are_within_limits.ensures c.deref.result.now c.in_ok-report.report c.map_err.result decoded (search rules)
