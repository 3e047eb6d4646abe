use Rattle.std.proofs.Common.{arith}
use Rattle.std.proofs.lemmas.Grind.{common_steps}
use Rattle.event_order.proofs.placing.Placing.offer.Goals as goal

pub returns-in_ok-insert-clause-holds : goal.returns-in_ok-insert-clause-holds
returns-in_ok-insert-clause-holds c = grind (arith, common_steps)
