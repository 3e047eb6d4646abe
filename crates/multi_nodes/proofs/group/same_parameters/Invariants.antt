use Rattle.std.proofs.Common.{◌≡◌, drop}
use Rattle.basis.specs.Lists.{each}
use Rattle.script_meaning.specs.GroupCost.{same_parameter}
use Rattle.multi_nodes.proofs.group.same_parameters.Given as goal

abbrev pub invariant-loop-place : goal.invariant-loop-place
invariant-loop-place l = each same_parameter (drop l.place l.a) (drop l.place l.b) ≡ each same_parameter l.a l.b
