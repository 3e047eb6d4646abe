use Rattle.std.proofs.Common.{subst}
use Rattle.std.proofs.lemmas.List.{take_all}
use Rattle.trace_and_report.specs.Written.{AreAdded, count_records}
use Rattle.trace_and_report.proofs.Reports.{counts_more, none_added}
use Rattle.trace_and_report.proofs.writing.write_counts.Goals as goal

pub loop-rid-init : goal.loop-rid-init
loop-rid-init c = none_added c.args.out.now.items

pub loop-rid-preserved : goal.loop-rid-preserved
loop-rid-preserved c =
    counts_more c.args.operations.now c.args.arrived.now c.loop-rid.rid-index c.counted.result c.args.out.now.items c.loop-rid.out.items c.add_count.new.out.items
    c.loop-rid.invariant c.loop-rid-test.true c.counted.ensures c.in_ok-keep_widths.ensures c.in_ok-add_count.ensures

pub returns : goal.returns
returns c =
    subst (λ rids. AreAdded (count_records c.args.operations.now rids) c.args.out.now.items c.loop-rid.out.items)
    (take_all c.loop-rid.rid-index c.args.arrived.now c.loop-rid-test.false) c.loop-rid.invariant
