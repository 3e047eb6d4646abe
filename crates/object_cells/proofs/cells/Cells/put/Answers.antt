use Rattle.std.proofs.Common.{Some}
use Rattle.object_cells.proofs.CellFacts.{changed, still_entries}
use Rattle.object_cells.proofs.cells.Cells.put.Goals as goal

pub invariant_of-self-2 : goal.invariant_of-self-2
invariant_of-self-2 c =
    let put = changed c.args.key (Some c.args.value) c.self.inside.values c.insert.new.self c.in_ok-before.ensures.updates.0 in
    still_entries c.args.key (Some c.args.value) _ _ put (c.requires.key_fits, c.requires.value_fits) c.self.invariant

pub returns-clause-put : goal.returns-clause-put
returns-clause-put c =
    rw (← c.self.view_is) (changed c.args.key (Some c.args.value) c.self.inside.values c.insert.new.self c.in_ok-before.ensures.updates.0)
