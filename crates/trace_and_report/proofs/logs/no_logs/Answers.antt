use Rattle.trace_and_report.proofs.Groups.{none_kept}
use Rattle.trace_and_report.proofs.logs.no_logs.Goals as goal

pub returns : goal.returns
returns c = none_kept c.new.result c.new.ensures.len
