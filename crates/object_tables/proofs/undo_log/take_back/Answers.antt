use Rattle.std.proofs.Common.{◌∙◌, ap, sym}
use Rattle.object_tables.specs.UndoLog.{undone}
use Rattle.object_tables.proofs.UndoLogs.{undone-push}
use Rattle.object_tables.proofs.undo_log.take_back.Goals as goal

pub loop-last-preserved : goal.loop-last-preserved
loop-last-preserved c =
    ap (undone c.pop.new.self.items) c.step_back.ensures ∙ sym (undone-push c.pop.new.self.items c.in-Some.last c.loop-last.storage.tables.items)
    ∙ ap (λ us. undone us c.loop-last.storage.tables.items) (sym c.in-Some.ensures.items) ∙ c.loop-last.invariant
