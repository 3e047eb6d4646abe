use Rattle.std.proofs.Common.{arith}
use Rattle.std.proofs.lemmas.Grind.{common_steps}
use Rattle.state_file.proofs.value.+value.Goals as goal

pub values_of-loop-item-preserved : goal.values_of-loop-item-preserved
values_of-loop-item-preserved c = grind (arith, common_steps)
