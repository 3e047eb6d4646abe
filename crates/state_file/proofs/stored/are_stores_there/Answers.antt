use Rattle.std.proofs.Common.{arith}
use Rattle.std.proofs.lemmas.Grind.{common_steps}
use Rattle.state_file.proofs.stored.are_stores_there.Goals as goal

pub returns-then-is_none : goal.returns-then-is_none
returns-then-is_none c = grind (arith, common_steps)

pub loop-store-preserved : goal.loop-store-preserved
loop-store-preserved c = grind (arith, common_steps)

pub returns : goal.returns
returns c = grind (arith, common_steps)
