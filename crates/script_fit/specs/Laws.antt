-- Objects that fit a program still do after an operation that fits it.
use Rattle.std.specs.Prelude.{◌≡◌, true}
use Rattle.script_tree.specs.Fit.{Fit}
use Rattle.script_tree.specs.Objects.{Objects, acted, plausible, holding}
use Rattle.script_tree.specs.Programs.{Program}
use Rattle.script_tree.specs.declared.operation.Choice.{Choice}
use Rattle.script_tree.specs.declared.operation.Op.{Op}
use Rattle.script_fit.specs.FitsOperation.{FitsOperation}

-- what all objects hold after an operation
abbrev pub objects_after : Op → Choice → Objects → Objects
objects_after op choice objects = holding op.object (acted op.act choice (objects op.object)).0 objects

-- objects that fit a program fit it after an operation that fits it, with a choice that the object takes
abbrev pub StayFit : Type 0
StayFit = (program : Program) (objects : Objects) (op : Op) (choice : Choice) → Fit program objects → FitsOperation program op
    → plausible op.act choice (objects op.object) ≡ true → Fit program (objects_after op choice objects)
