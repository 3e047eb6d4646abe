use Rattle.trace_format.proofs.FileEvents.{are_spelled, read_events}
use Rattle.trace_format.proofs.trace_file.TraceFile.read.Goals as goal

pub invariant_of-result : goal.invariant_of-result
invariant_of-result c = (are_spelled c.args.bytes.items c.in_ok-records.records c.in_ok-records.ensures, tt)

pub returns : goal.returns
returns c = read_events c.args.bytes.items c.in_ok-records.records c.in_ok-records.ensures c.result-1.given.0
