use Rattle.std.proofs.Common.{arith}
use Rattle.std.proofs.lemmas.Grind.{common_steps}
use Rattle.script_tokens.proofs.text.content.Goals as goal

pub returns-in-Ends : goal.returns-in-Ends
returns-in-Ends c = grind (arith, common_steps)

pub returns-in-Fails : goal.returns-in-Fails
returns-in-Fails c = grind (arith, common_steps)

pub loop-byte-preserved : goal.loop-byte-preserved
loop-byte-preserved c = grind (arith, common_steps)

pub returns : goal.returns
returns c = grind (arith, common_steps)
