use Rattle.std.proofs.Common.{arith}
use Rattle.std.proofs.lemmas.Grind.{common_steps}
use Rattle.multi_run.proofs.run.Run.back.Goals as goal

pub returns-in_ok-push-in-Some-clause-back : goal.returns-in_ok-push-in-Some-clause-back
returns-in_ok-push-in-Some-clause-back c = grind (arith, common_steps)
