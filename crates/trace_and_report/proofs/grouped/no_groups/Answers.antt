use Rattle.trace_and_report.proofs.Groups.{none_yet}
use Rattle.trace_and_report.proofs.grouped.no_groups.Goals as goal

pub returns : goal.returns
returns g c = none_yet c.new.result c.new.ensures.len
