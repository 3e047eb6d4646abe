use Rattle.std.proofs.Common.{◌≡◌, ◌++◌, take}
use Rattle.script_values.proofs.lists.joined_lists.Given as goal

abbrev pub invariant-loop-value : goal.invariant-loop-value
invariant-loop-value l = l.all.items ≡ l.fn.values ++ take l.value-index l.value-items
