use Rattle.std.proofs.Common.{◌≡◌, ◌∙◌, length, is_none, Some, get_or, ap, sym, arith}
use Rattle.basis.specs.Lists.{nth}
use Rattle.basis.proofs.Places.{nth-get_or}
use Rattle.period.specs.declared.report.Count.{Count}
use Rattle.log_checker.proofs.CountFacts.{of_none_is, of_none_more, counted_all}
use Rattle.log_checker.proofs.Firsts.{none_start}
use Rattle.log_checker.proofs.Tests.{place_tells, none_result}
use Rattle.log_checker.proofs.counting.check_counted.Goals as goal

pub loop-count-init : goal.loop-count-init
loop-count-init c = none_start _ _

pub returns-then-is_none : goal.returns-then-is_none
returns-then-is_none c =
    let i = c.loop-count.count-index in
    let count : Count = get_or c.as_slice-count-items.result.now i (record { rid = 0; operations = 0 }) in
    let at : nth c.args.report.now.counts i ≡ Some count = sym (ap (λ xs. nth xs i) c.as_slice-count-items.ensures)
    ∙ nth-get_or (record { rid = 0; operations = 0 }) c.as_slice-count-items.result.now i c.loop-count-test.true in
    of_none_is c.args.trace.now c.args.report.now i count c.is_none.result c.loop-count.invariant at
    (none_result c.is_none.result c.place.result c.is_none.ensures ∙ ap is_none c.place.ensures.place
    ∙ place_tells c.args.trace.now count.rid) c.if-is_none.true

pub loop-count-preserved : goal.loop-count-preserved
loop-count-preserved c =
    let i = c.loop-count.count-index in
    let count : Count = get_or c.as_slice-count-items.result.now i (record { rid = 0; operations = 0 }) in
    let at : nth c.args.report.now.counts i ≡ Some count = sym (ap (λ xs. nth xs i) c.as_slice-count-items.ensures)
    ∙ nth-get_or (record { rid = 0; operations = 0 }) c.as_slice-count-items.result.now i c.loop-count-test.true in
    of_none_more c.args.trace.now c.args.report.now.counts i count c.is_none.result c.loop-count.invariant at
    (none_result c.is_none.result c.place.result c.is_none.ensures ∙ ap is_none c.place.ensures.place
    ∙ place_tells c.args.trace.now count.rid) c.if-is_none.false

pub returns : goal.returns
returns c = counted_all c.args.trace.now c.args.report.now c.loop-count.count-index
    (omega (arith, ap length c.as_slice-count-items.ensures)) c.loop-count.invariant
