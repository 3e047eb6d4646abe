use Rattle.std.proofs.Common.{rules}
use Rattle.script_tree.specs.Objects as objects
use Rattle.object_set.proofs.Acting.{rolls}
use Rattle.object_set.proofs.set.ObjectSet.roll.Goals as goal

pub returns : goal.returns
unfolding objects.acted
returns c = search (rules, rolls)
