use Rattle.std.proofs.Common.{arith}
use Rattle.std.proofs.lemmas.Grind.{common_steps}
use Rattle.trace_format.proofs.encoding.write_answered.Goals as goal

pub write_response-requires : goal.write_response-requires
write_response-requires c = grind (arith, common_steps)

pub returns : goal.returns
returns c = grind (arith, common_steps)
