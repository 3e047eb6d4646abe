use Rattle.std.proofs.Common.{subst}
use Rattle.trace_and_report.specs.Grouped.{entries_in}
use Rattle.trace_and_report.proofs.Groups.{kept_are}
use Rattle.trace_and_report.proofs.Writings.{AreUnderWay, begin, goes_on, ends}
use Rattle.trace_and_report.proofs.writing.write_logs.Goals as goal

pub loop-object-init : goal.loop-object-init
loop-object-init c = λ gs are may.
    begin gs c.into_iter-object-iterator.result (entries_in c.args.logs) c.args.out.now.items
    (kept_are c.args.logs c.into_iter-object-iterator.result c.into_iter-object-iterator.ensures.into_iter_gives.0) are may

pub loop-object-preserved : goal.loop-object-preserved
loop-object-preserved c = λ gs are may.
    let under = subst (λ left. AreUnderWay gs left c.args.out.now.items c.loop-object.out.items) c.in-Some.ensures.steps (c.loop-object.invariant gs are may) in
    let log = c.in_ok-write_log.ensures in
    goes_on gs c.in-Some.object c.in-Some.entries c.next.new.self c.args.out.now.items c.loop-object.out.items c.write_log.new.out.items under log.named log.counted log.behind

pub returns : goal.returns
returns c = λ gs are may.
    ends gs c.loop-object.object-iterator c.args.out.now.items c.loop-object.out.items (c.loop-object.invariant gs are may) c.in-None.ensures.steps.0
