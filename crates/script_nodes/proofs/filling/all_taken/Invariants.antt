use Rattle.std.proofs.Common.{◌≡◌, ◌≤◌, ◌+◌, min, drop}
use Rattle.script_code.specs.CodeRun.{all_taken}
use Rattle.script_nodes.proofs.filling.all_taken.Given as goal

-- what is counted and what is left make the whole
abbrev pub invariant-loop-shape : goal.invariant-loop-shape
invariant-loop-shape l = record {
  fits : l.taken ≤ 18446744073709551615;
  left : min (l.taken + all_taken (drop l.shape-index l.shapes)) 18446744073709551615 ≡ min (all_taken l.shapes) 18446744073709551615;
}
