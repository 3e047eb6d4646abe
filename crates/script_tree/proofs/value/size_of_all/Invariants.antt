use Rattle.std.proofs.Common.{◌≡◌, ◌≤◌, ◌+◌, min, drop}
use Rattle.script_tree.specs.Datum.{members_size, data_of}
use Rattle.script_tree.proofs.value.size_of_all.Given as goal

-- what is counted and what is left make the whole
abbrev pub invariant-loop-value : goal.invariant-loop-value
invariant-loop-value l = record {
  fits : l.total ≤ 18446744073709551615;
  left : min (l.total + members_size (data_of (drop l.value-index l.values))) 18446744073709551615
      ≡ min (members_size (data_of l.values)) 18446744073709551615;
}
