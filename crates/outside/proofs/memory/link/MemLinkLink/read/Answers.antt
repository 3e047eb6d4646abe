use Rattle.std.proofs.Common.{arith}
use Rattle.std.proofs.lemmas.Grind.{common_steps}
use Rattle.outside.proofs.memory.link.MemLinkLink.read.Goals as goal

pub returns-clause-used : goal.returns-clause-used
returns-clause-used c = grind (arith, common_steps)
