use Rattle.std.proofs.Common.{◌≡◌, drop}
use Rattle.script_meaning.specs.Variables.{value_in}
use Rattle.page_walker.proofs.variables.Variables.value.Given as goal

abbrev pub invariant-loop-variable : goal.invariant-loop-variable
invariant-loop-variable l = value_in (drop l.variable-index l.variable-items) l.name ≡ value_in l.variable-items l.name
