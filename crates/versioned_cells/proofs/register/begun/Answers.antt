use Rattle.std.proofs.Common.{◌∙◌}
use Rattle.object_cells.specs.Cells.{held}
use Rattle.versioned_cells.proofs.LogFacts.{one_begins}
use Rattle.versioned_cells.proofs.register.begun.Goals as goal

pub returns : goal.returns
returns c = one_begins (held c.args.registers.now c.args.name.now) c.in_ok-copied.field-0 c.begun.result c.begun.ensures (c.in_ok-copied.ensures ∙ c.find.ensures)
