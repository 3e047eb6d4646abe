use Rattle.std.proofs.Common.{◌≡◌, ◌++◌, length, drop}
use Rattle.script_code.specs.CodeRun.{tests_with}
use Rattle.script_nodes.proofs.filling.tests_with.Given as goal

-- the tests so far, and those of the shapes and the values that are left
abbrev pub invariant-loop-shape : goal.invariant-loop-shape
invariant-loop-shape l = l.tests ++ tests_with (drop (length l.yielded) l.shapes) (drop (length l.yielded) l.values) ≡ tests_with l.shapes l.values
