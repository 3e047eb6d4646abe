use Rattle.whole_history.proofs.ReportDrafts.{counts_more}
use Rattle.whole_history.proofs.reports.counts_from.Goals as goal

pub loop-rid-preserved : goal.loop-rid-preserved
loop-rid-preserved c =
    counts_more c.args.operations.now c.args.arrived.now c.loop-rid.rid-index c.counted.result c.loop-rid.counts.items c.push.new.self.items
    c.loop-rid.invariant c.loop-rid-test.true c.counted.ensures c.in_ok-push.ensures.items
