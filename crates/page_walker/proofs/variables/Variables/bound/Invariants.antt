use Rattle.std.proofs.Common.{◌≡◌, ◌++◌, drop}
use Rattle.std.specs.Vec.Iter.{into_iter_items}
use Rattle.script_meaning.specs.Variables.{bound}
use Rattle.page_walker.proofs.variables.Variables.bound.Given as goal

abbrev pub invariant-loop-parameter : goal.invariant-loop-parameter
invariant-loop-parameter l = record {
  told : l.variables ++ bound (drop l.parameter-index l.parameters) (into_iter_items l.left) ≡ bound l.parameters l.fn.values.items;
}
