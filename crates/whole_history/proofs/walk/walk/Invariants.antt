use Rattle.std.proofs.Common.{take}
use Rattle.history.specs.Names.{names}
use Rattle.whole_history.proofs.walk.walk.Given as goal

abbrev pub invariant-loop-happening : goal.invariant-loop-happening
invariant-loop-happening g l = g.D.Draft.is_of (names (take l.happening-index l.happening-items)) l.draft
