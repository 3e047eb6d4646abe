use Rattle.std.proofs.Common.{arith}
use Rattle.std.proofs.lemmas.Grind.{common_steps}
use Rattle.versioned_tables.proofs.keys.add_keys.Goals as goal

pub returns-in-Select-clause-reaches : goal.returns-in-Select-clause-reaches
returns-in-Select-clause-reaches c = grind (arith, common_steps)

pub returns-in-Update-clause-reaches : goal.returns-in-Update-clause-reaches
returns-in-Update-clause-reaches c = grind (arith, common_steps)

pub returns-in-Delete-clause-reaches : goal.returns-in-Delete-clause-reaches
returns-in-Delete-clause-reaches c = grind (arith, common_steps)

pub returns-in-Expect-clause-reaches : goal.returns-in-Expect-clause-reaches
returns-in-Expect-clause-reaches c = grind (arith, common_steps)
