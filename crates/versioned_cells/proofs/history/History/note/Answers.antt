use Rattle.std.proofs.Common.{sym, subst}
use Rattle.versioned_cells.specs.Versions.{AreUntil}
use Rattle.versioned_cells.proofs.HistoryFacts.{rising_more}
use Rattle.versioned_cells.proofs.history.History.note.Goals as goal

pub invariant_of-self-2 : goal.invariant_of-self-2
invariant_of-self-2 g c =
    rising_more c.args.since c.args.value c.self.inside.first c.self.inside.later.items c.push.new.self.items c.self.invariant (subst (AreUntil c.args.since) (sym c.self.view_is) c.requires) c.in_ok-push.ensures.items
