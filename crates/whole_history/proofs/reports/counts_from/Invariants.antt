use Rattle.std.proofs.Common.{◌≡◌, map, take}
use Rattle.trace_and_report.specs.Draft.{count_at}
use Rattle.whole_history.proofs.reports.counts_from.Given as goal

abbrev pub invariant-loop-rid : goal.invariant-loop-rid
invariant-loop-rid l = l.counts.items ≡ map (count_at l.operations) (take l.rid-index l.arrived)
