use Rattle.std.proofs.Common.{arith}
use Rattle.std.proofs.lemmas.Grind.{common_steps}
use Rattle.script_nodes.proofs.filling.all_filled.Goals as goal

pub loop-shape-preserved : goal.loop-shape-preserved
loop-shape-preserved c = grind (arith, common_steps)

pub returns : goal.returns
returns c = grind (arith, common_steps)
