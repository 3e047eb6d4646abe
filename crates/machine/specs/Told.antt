-- What the machine tells, as the definition sees it.
use Rattle.script_meaning.specs.Conduct as meant
use Rattle.machine.specs.declared.ending.MachineStep.{MachineStep}
use Rattle.machine.specs.declared.ending.MachineStep.TheVariants.{Wants, Ends}

-- the ending that a step of the machine tells
abbrev pub ending_of : MachineStep → meant.Ending
ending_of (Wants op) = meant.Wants op
ending_of (Ends response path) = meant.Ends response path
