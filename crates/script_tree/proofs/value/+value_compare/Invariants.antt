use Rattle.std.proofs.Common.{◌≡◌, drop}
use Rattle.script_tree.specs.Datum.{data_of}
use Rattle.script_tree.specs.Order.{compare_members}
use Rattle.script_tree.proofs.value.+value_compare.Given as goal

abbrev pub invariant-Members::compare-loop-i : goal.invariant-Members::compare-loop-i
invariant-Members::compare-loop-i l =
    compare_members (data_of (drop l.i l.self-inside.items.items)) (data_of (drop l.i l.other-inside.items.items))
    ≡ compare_members (data_of l.self-inside.items.items) (data_of l.other-inside.items.items)
