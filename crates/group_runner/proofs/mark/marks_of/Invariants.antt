use Rattle.std.proofs.Common.{◌≡◌, map, take}
use Rattle.group_runner.specs.Marks.{bare_sign, marks_in, marks_on}
use Rattle.group_runner.proofs.mark.marks_of.Given as goal

abbrev pub invariant-loop-mark : goal.invariant-loop-mark
invariant-loop-mark l = marks_in l.marks.items ≡ marks_on l.page (map bare_sign (take l.mark-index l.trail))
