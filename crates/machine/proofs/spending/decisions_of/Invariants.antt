use Rattle.std.proofs.Common.{◌≡◌, ◌++◌, drop}
use Rattle.machine.specs.Decided.{decided_in}
use Rattle.machine.proofs.spending.decisions_of.Given as goal

abbrev pub invariant-loop-mark : goal.invariant-loop-mark
invariant-loop-mark l = l.made ++ decided_in (drop l.mark-index l.trail) ≡ decided_in l.trail
