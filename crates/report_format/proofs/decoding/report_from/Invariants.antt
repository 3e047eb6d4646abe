use Rattle.std.specs.Prelude.{length}
use Rattle.std.specs.Vec.Iter.{into_iter_items}
use Rattle.report_format.proofs.RecordOrder.{IsHalf}
use Rattle.report_format.proofs.decoding.report_from.Given as goal

abbrev pub invariant-loop-read : goal.invariant-loop-read
invariant-loop-read l = IsHalf l.report (into_iter_items l.left) l.fn.records

abbrev pub decreases-loop-read : goal.decreases-loop-read
decreases-loop-read l = length (into_iter_items l.left)
