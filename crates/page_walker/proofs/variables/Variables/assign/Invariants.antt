use Rattle.std.proofs.Common.{◌≡◌, ◌-◌, ◌++◌, take, drop, length}
use Rattle.script_tree.specs.Datum.{Datum}
use Rattle.script_meaning.specs.Variables.{assigned}
use Rattle.page_walker.proofs.variables.Variables.assign.Given as goal

-- the variable is among what is left
abbrev pub invariant-loop-place : goal.invariant-loop-place
invariant-loop-place l = record {
  same : l.self-inside.variables.items ≡ l.fn.self;
  left : (d : Datum) → take l.place l.self-inside.variables.items
      ++ assigned (drop l.place l.self-inside.variables.items) l.name d
      ≡ assigned l.self-inside.variables.items l.name d;
}

abbrev pub decreases-loop-place : goal.decreases-loop-place
decreases-loop-place l = length l.self-inside.variables.items - l.place
