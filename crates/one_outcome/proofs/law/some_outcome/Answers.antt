use Rattle.one_outcome.proofs.SomeOutcome.{is_some_outcome}
use Rattle.one_outcome.proofs.law.some_outcome.Goals as goal

pub returns : goal.returns
returns c = is_some_outcome c.some_way.ensures
