use Rattle.schedule_format.proofs.Following.{one_more}
use Rattle.schedule_format.proofs.encoding.keep_widths.Goals as goal

pub loop-moment-preserved : goal.loop-moment-preserved
loop-moment-preserved c = one_more c.args.moments.now c.loop-moment.moment-index _ c.loop-moment-test.true c.keep_width.ensures c.loop-moment.invariant
