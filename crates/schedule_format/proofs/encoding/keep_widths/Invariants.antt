use Rattle.std.proofs.Common.{take}
use Rattle.schedule_format.specs.Moments.{AreMoments}
use Rattle.schedule_format.proofs.encoding.keep_widths.Given as goal

abbrev pub invariant-loop-moment : goal.invariant-loop-moment
invariant-loop-moment l = AreMoments (take l.moment-index l.moments)
