use Rattle.std.proofs.Common.{◌≡◌, length}
use Rattle.object_tables.specs.Storages.{before}
use Rattle.object_tables.proofs.undo_log.take_back.Given as goal

abbrev pub invariant-loop-last : goal.invariant-loop-last
invariant-loop-last l = before l.storage ≡ before l.fn.storage

abbrev pub decreases-loop-last : goal.decreases-loop-last
decreases-loop-last l = length l.storage.undo_log.items
