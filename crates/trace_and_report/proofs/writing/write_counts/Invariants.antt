use Rattle.std.proofs.Common.{take}
use Rattle.trace_and_report.specs.Written.{AreAdded, count_records}
use Rattle.trace_and_report.proofs.writing.write_counts.Given as goal

abbrev pub invariant-loop-rid : goal.invariant-loop-rid
invariant-loop-rid l = AreAdded (count_records l.operations (take l.rid-index l.arrived)) l.fn.out.items l.out.items
