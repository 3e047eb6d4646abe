use Rattle.std.proofs.Common.{◌≡◌, length}
use Rattle.object_tables.specs.Slots.{rows_of}
use Rattle.object_tables.proofs.rows.RowsIterator.next.Given as goal

abbrev pub invariant-loop-slot : goal.invariant-loop-slot
invariant-loop-slot l = rows_of l.self-inside.slots ≡ l.fn.self

abbrev pub decreases-loop-slot : goal.decreases-loop-slot
decreases-loop-slot l = length l.self-inside.slots
