use Rattle.std.proofs.Common.{sym, subst}
use Rattle.versioned_cells.specs.Versions.{AreAllUntil}
use Rattle.versioned_tables.proofs.Noting.{there}
use Rattle.versioned_tables.proofs.notes.change_in.Goals as goal

pub change-requires : goal.change-requires
change-requires c = subst (AreAllUntil c.args.since)
    (sym (there c.args.tables.now.items c.args.i c.index_mut.result.now c.requires.within c.index_mut.ensures.value))
    (c.requires.from c.args.i)
