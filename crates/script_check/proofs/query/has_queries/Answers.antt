use Rattle.std.proofs.Common.{ap, ◌∙◌}
use Rattle.std.specs.Prelude.{not}
use Rattle.script_check.proofs.Some.{some_queries}
use Rattle.script_check.proofs.query.has_queries.Goals as goal

pub returns : goal.returns
returns c = ap not c.is_empty.ensures ∙ some_queries c.args.queries.now
