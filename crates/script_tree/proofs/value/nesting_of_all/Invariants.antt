use Rattle.std.proofs.Common.{◌≡◌, ◌≤◌, min, max, drop}
use Rattle.script_tree.specs.Datum.{members_nesting, data_of}
use Rattle.script_tree.proofs.value.nesting_of_all.Given as goal

-- the deepest so far and the deepest of what is left
abbrev pub invariant-loop-value : goal.invariant-loop-value
invariant-loop-value l = record {
  fits : l.most ≤ 18446744073709551615;
  left : min (max l.most (members_nesting (data_of (drop l.value-index l.values)))) 18446744073709551615
      ≡ min (members_nesting (data_of l.values)) 18446744073709551615;
}
