use Rattle.std.proofs.Common.{refl}
use Rattle.object_tables.proofs.UndoLogs.{undone-push}
use Rattle.object_tables.proofs.undo_log.put.Goals as goal

pub returns-clause-before : goal.returns-clause-before
returns-clause-before c =
    rw (c.note.ensures, undone-push, c.in_ok-saved.ensures.cases, c.in_ok-before.ensures.undo, c.in_ok-reserve.ensures.items) refl
