use Rattle.report_format.proofs.Limits.{are_within_limits}
use Rattle.report_format.proofs.law.values_are_within_limits.Goals as goal

pub returns : goal.returns
returns c = are_within_limits
