use Rattle.std.proofs.Common.{sym}
use Rattle.multi_nodes.proofs.Below.{one_shared}
use Rattle.multi_nodes.proofs.evaluate.is_shared.Goals as goal

pub returns-in-Some : goal.returns-in-Some
returns-in-Some c = sym (one_shared c.args.values.now c.in-Some.field-0.now c.args.members c.in-Some.ensures)
