use Rattle.versioned_cells.proofs.histories.Histories.change.Goals as goal

pub change_in-requires : goal.change_in-requires
change_in-requires g c = rw c.self.view_is c.requires
