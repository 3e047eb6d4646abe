use Rattle.std.proofs.Common.{arith}
use Rattle.std.proofs.lemmas.Grind.{common_steps}
use Rattle.workload.proofs.requests.all_requests.Goals as goal

pub loop-job-preserved : goal.loop-job-preserved
loop-job-preserved c = grind (arith, common_steps)

pub returns-in-None-into_request : goal.returns-in-None-into_request
returns-in-None-into_request c = grind (arith, common_steps)

pub returns : goal.returns
returns c = grind (arith, common_steps)
