use Rattle.std.proofs.Common.{arith}
use Rattle.std.proofs.lemmas.Grind.{common_steps}
use Rattle.wire.proofs.field.read_u32.Goals as goal

pub returns-in-Some-len4-up-clause-field : goal.returns-in-Some-len4-up-clause-field
returns-in-Some-len4-up-clause-field c = grind (arith, common_steps)

pub returns-in_default-clause-field : goal.returns-in_default-clause-field
returns-in_default-clause-field c = grind (arith, common_steps)

pub returns-in_default-2-clause-field : goal.returns-in_default-2-clause-field
returns-in_default-2-clause-field c = grind (arith, common_steps)
