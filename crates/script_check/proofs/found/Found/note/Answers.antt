use Rattle.script_check.specs.Least.{lower}
use Rattle.std.proofs.Common.{arith}
use Rattle.std.proofs.lemmas.Grind.{common_steps}
use Rattle.script_check.proofs.found.Found.note.Goals as goal

pub returns-in-None : goal.returns-in-None
unfolding lower
returns-in-None c = grind (arith, common_steps)

pub returns-then-is_below : goal.returns-then-is_below
unfolding lower
returns-then-is_below c = grind (arith, common_steps)

pub returns-else-is_below : goal.returns-else-is_below
unfolding lower
returns-else-is_below c = grind (arith, common_steps)
