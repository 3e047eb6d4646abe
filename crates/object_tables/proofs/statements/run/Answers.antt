use Rattle.std.proofs.Common.{arith}
use Rattle.std.proofs.lemmas.Grind.{common_steps}
use Rattle.object_tables.proofs.statements.run.Goals as goal

pub returns-then-branch-clause-done : goal.returns-then-branch-clause-done
returns-then-branch-clause-done c = grind (arith, common_steps)

pub returns-else-branch-clause-done : goal.returns-else-branch-clause-done
returns-else-branch-clause-done c = grind (arith, common_steps)

pub returns-in_ok-rows-in-Select-clause-done : goal.returns-in_ok-rows-in-Select-clause-done
returns-in_ok-rows-in-Select-clause-done c = grind (arith, common_steps)

pub returns-in_ok-n-in-Update-clause-done : goal.returns-in_ok-n-in-Update-clause-done
returns-in_ok-n-in-Update-clause-done c = grind (arith, common_steps)

pub returns-in_ok-n-in-Delete-clause-done : goal.returns-in_ok-n-in-Delete-clause-done
returns-in_ok-n-in-Delete-clause-done c = grind (arith, common_steps)

pub returns-then-count-wanted-clause-done : goal.returns-then-count-wanted-clause-done
returns-then-count-wanted-clause-done c = grind (arith, common_steps)

pub returns-else-count-wanted-clause-done : goal.returns-else-count-wanted-clause-done
returns-else-count-wanted-clause-done c = grind (arith, common_steps)
