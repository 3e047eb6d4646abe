use Rattle.object_tables.proofs.Whole.{whole_noted}
use Rattle.object_tables.proofs.tables.transact_on.Goals as goal

pub settle-requires : goal.settle-requires
settle-requires c = whole_noted _ _ (rw (c.run_answered-answered.ensures.before, c.requires.undo_log) c.requires.whole)
