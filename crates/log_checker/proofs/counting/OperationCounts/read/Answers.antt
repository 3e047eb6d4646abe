use Rattle.std.proofs.Common.{◌≡◌, ◌∙◌, take, length, false, Some, get_or, ap, sym, arith}
use Rattle.std.specs.Option.{is_some}
use Rattle.basis.specs.Lists.{nth, first_answer}
use Rattle.basis.proofs.Places.{nth-get_or}
use Rattle.period.specs.declared.report.Count.{Count}
use Rattle.audit_meaning.specs.Spots.{operations_in}
use Rattle.log_checker.proofs.CountFacts.{second_is, once_more, no_second}
use Rattle.log_checker.proofs.Firsts.{none_start}
use Rattle.log_checker.proofs.Tables.{counted_more, missing, all_taken}
use Rattle.log_checker.proofs.counting.OperationCounts.read.Goals as goal

pub loop-count-init : goal.loop-count-init
unfolding first_answer
loop-count-init c = record { once = none_start _ _; told = c.in_ok-operations.ensures }

pub returns-then-is_some : goal.returns-then-is_some
returns-then-is_some c =
    let i = c.loop-count.count-index in
    let report = c.args.report.now in
    let count : Count = get_or c.as_slice-count-items.result.now i (record { rid = 0; operations = 0 }) in
    let at : nth report.counts i ≡ Some count = sym (ap (λ xs. nth xs i) c.as_slice-count-items.ensures)
    ∙ nth-get_or (record { rid = 0; operations = 0 }) c.as_slice-count-items.result.now i c.loop-count-test.true in
    second_is report i count c.in_ok-earlier.earlier c.loop-count.invariant.once at (c.in_ok-earlier.ensures.had ∙ c.loop-count.invariant.told count.rid)
    (sym c.is_some.ensures ∙ c.if-is_some.true)

pub loop-count-preserved : goal.loop-count-preserved
loop-count-preserved c =
    let i = c.loop-count.count-index in
    let report = c.args.report.now in
    let count : Count = get_or c.as_slice-count-items.result.now i (record { rid = 0; operations = 0 }) in
    let at : nth report.counts i ≡ Some count = sym (ap (λ xs. nth xs i) c.as_slice-count-items.ensures)
    ∙ nth-get_or (record { rid = 0; operations = 0 }) c.as_slice-count-items.result.now i c.loop-count-test.true in
    let told : c.in_ok-earlier.earlier ≡ first_answer (operations_in count.rid) (take i report.counts) =
    c.in_ok-earlier.ensures.had ∙ c.loop-count.invariant.told count.rid in
    let new : is_some c.in_ok-earlier.earlier ≡ false = sym c.is_some.ensures ∙ c.if-is_some.false in
    record {
      once = once_more report i count c.in_ok-earlier.earlier c.loop-count.invariant.once at told new;
      told = counted_more report.counts i count c.loop-count.operations c.insert.new.self at c.loop-count.invariant.told
          (sym c.in_ok-earlier.ensures.had ∙ missing c.in_ok-earlier.earlier new) c.in_ok-earlier.ensures.puts;
    }

pub returns : goal.returns
returns c =
    let report = c.args.report.now in
    let all : c.loop-count.count-index ≡ length report.counts = omega (arith, ap length c.as_slice-count-items.ensures) in (
      no_second report c.loop-count.count-index all c.loop-count.invariant.once,
      λ r. c.loop-count.invariant.told r ∙ ap (first_answer (operations_in r)) (all_taken report.counts c.loop-count.count-index all),
    )
