use Rattle.std.proofs.Common.{arith}
use Rattle.object_tables.proofs.Places.{nothing_in_order}
use Rattle.object_tables.proofs.undo_log.settle_one.Goals as goal

pub returns-else-undo-len-clause-ordered : goal.returns-else-undo-len-clause-ordered
returns-else-undo-len-clause-ordered c = nothing_in_order c.args.tables.now.items c.args.undo.now.table (omega (arith, c.len.ensures, c.if-undo-len.false))
