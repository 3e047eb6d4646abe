use Rattle.std.proofs.Common.{◌≡◌, ◌++◌, map, drop}
use Rattle.script_code.specs.CodeRun.{all_filled}
use Rattle.script_values.specs.Queries.{unchecked_of}
use Rattle.script_nodes.proofs.filling.all_filled.Given as goal

-- the statements so far, and those of the shapes and the values that are left
abbrev pub invariant-loop-shape : goal.invariant-loop-shape
invariant-loop-shape l = map unchecked_of l.statements.items ++ all_filled (drop l.shape-index l.shapes) l.left ≡ all_filled l.shapes l.values
