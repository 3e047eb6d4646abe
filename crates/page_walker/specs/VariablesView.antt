-- The variables that the code keeps.
use Rattle.script_meaning.specs.Variables.{Variables}
use Rattle.page_walker.specs.declared.variables.Variables.TheInside.{Inside}

-- the variables, the newest last
abbrev pub variables_of : Inside → Variables
variables_of vs = vs.variables.items
