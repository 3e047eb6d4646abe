use Rattle.std.proofs.Common.{◌≡◌, drop}
use Rattle.replayer.specs.Differences.{first_not_departed}
use Rattle.replayer.specs.Standings.{departed_in}
use Rattle.replayer.proofs.standing.first_not_departed.Given as goal

-- no request so far is the first
abbrev pub invariant-loop-place : goal.invariant-loop-place
invariant-loop-place l = first_not_departed (departed_in l.trace l.standings) l.trace
    ≡ first_not_departed (departed_in l.trace l.standings) (drop l.place l.trace)
