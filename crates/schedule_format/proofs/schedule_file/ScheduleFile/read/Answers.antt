use Rattle.schedule_format.proofs.FileMoments.{are_spelled, read_moments}
use Rattle.schedule_format.proofs.schedule_file.ScheduleFile.read.Goals as goal

pub invariant_of-result : goal.invariant_of-result
invariant_of-result c = (are_spelled c.args.bytes.items c.in_ok-records.records c.in_ok-records.ensures, tt)

pub returns : goal.returns
returns c = read_moments c.args.bytes.items c.in_ok-records.records c.in_ok-records.ensures c.result-1.given.0
