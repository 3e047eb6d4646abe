use Rattle.object_tables.proofs.PutBack.{replace_back}
use Rattle.object_tables.proofs.table.Slots.replace.Goals as goal

pub returns-clause-undo : goal.returns-clause-undo
returns-clause-undo c = rw (c.replace_in.ensures.after, c.replace_in.ensures.before, ← c.self.view_is) (replace_back _ _ _)
