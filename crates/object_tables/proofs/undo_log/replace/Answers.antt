use Rattle.std.proofs.Common.{refl}
use Rattle.object_tables.proofs.UndoLogs.{undone-push}
use Rattle.object_tables.proofs.undo_log.replace.Goals as goal

pub returns-clause-before : goal.returns-clause-before
returns-clause-before c = rw (c.note.ensures, undone-push, c.replace_in-before.ensures.undo, c.in_ok-reserve.ensures.items) refl
