use Rattle.std.proofs.Common.{arith}
use Rattle.std.proofs.lemmas.Grind.{common_steps}
use Rattle.multi_run.proofs.answering.is_within.Goals as goal

pub returns : goal.returns
returns c = grind (arith, common_steps)
