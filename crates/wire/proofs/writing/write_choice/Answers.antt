use Rattle.std.proofs.Common.{arith}
use Rattle.std.proofs.lemmas.Grind.{common_steps}
use Rattle.wire.proofs.writing.write_choice.Goals as goal

pub returns-in_ok-write_u8-in-Number-clause-ok : goal.returns-in_ok-write_u8-in-Number-clause-ok
returns-in_ok-write_u8-in-Number-clause-ok c = grind (arith, common_steps)

pub returns-in_ok-write_u8-in-Number-clause-err : goal.returns-in_ok-write_u8-in-Number-clause-err
returns-in_ok-write_u8-in-Number-clause-err c = grind (arith, common_steps)
