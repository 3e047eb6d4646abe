use Rattle.std.proofs.Common.{arith}
use Rattle.std.proofs.lemmas.Grind.{common_steps}
use Rattle.object_tables.proofs.reading.select.Goals as goal

pub loop-slot-init : goal.loop-slot-init
loop-slot-init c = grind (arith, common_steps)

pub loop-slot-preserved : goal.loop-slot-preserved
loop-slot-preserved c = grind (arith, common_steps)

pub returns : goal.returns
returns c = grind (arith, common_steps)
