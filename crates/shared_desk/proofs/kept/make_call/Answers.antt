use Rattle.std.proofs.Common.{arith}
use Rattle.std.proofs.lemmas.Grind.{common_steps}
use Rattle.shared_desk.proofs.kept.make_call.Goals as goal

pub returns-clause-calls : goal.returns-clause-calls
returns-clause-calls g c = grind (arith, common_steps)

pub returns-clause-keeps : goal.returns-clause-keeps
returns-clause-keeps g c = grind (arith, common_steps)
