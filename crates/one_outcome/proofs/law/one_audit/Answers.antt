use Rattle.one_outcome.proofs.OneOutcome.{is_one_audit}
use Rattle.one_outcome.proofs.law.one_audit.Goals as goal

pub returns : goal.returns
returns c = is_one_audit c.one_way.ensures
