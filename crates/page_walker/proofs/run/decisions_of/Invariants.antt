use Rattle.std.proofs.Common.{◌≡◌, ◌++◌, drop}
use Rattle.script_meaning.specs.Conduct.{decisions}
use Rattle.page_walker.proofs.run.decisions_of.Given as goal

abbrev pub invariant-loop-mark : goal.invariant-loop-mark
invariant-loop-mark l = l.made ++ decisions (drop l.mark-index l.trail) ≡ decisions l.trail
