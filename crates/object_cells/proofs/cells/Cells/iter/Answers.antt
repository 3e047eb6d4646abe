use Rattle.object_cells.proofs.CellFacts.{each_entry}
use Rattle.object_cells.proofs.cells.Cells.iter.Goals as goal

pub returns-clause-entries : goal.returns-clause-entries
returns-clause-entries c = rw c.iter.ensures.rest (each_entry c.self.inside.values.entries c.self.invariant c.iter.ensures.found)
