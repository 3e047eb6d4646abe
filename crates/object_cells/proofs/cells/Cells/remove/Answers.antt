use Rattle.std.proofs.Common.{None}
use Rattle.object_cells.proofs.CellFacts.{changed, still_entries}
use Rattle.object_cells.proofs.cells.Cells.remove.Goals as goal

pub invariant_of-self : goal.invariant_of-self
invariant_of-self c =
    let removed = changed c.args.key.now None c.self.inside.values c.remove.new.self c.remove.ensures.updates.0 in
    still_entries c.args.key.now None _ _ removed tt c.self.invariant

pub returns : goal.returns
returns c = rw (← c.self.view_is) (changed c.args.key.now None c.self.inside.values c.remove.new.self c.remove.ensures.updates.0)
