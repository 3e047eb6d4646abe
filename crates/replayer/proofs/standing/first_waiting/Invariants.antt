use Rattle.std.proofs.Common.{◌≡◌, ◌+◌, ◌-◌, length, drop}
use Rattle.replayer.specs.Standings.{departed_in, first_waiting}
use Rattle.replayer.proofs.standing.first_waiting.Given as goal

-- no response on the way so far is waited for
abbrev pub invariant-loop-place : goal.invariant-loop-place
invariant-loop-place l =
    l.fn.from + first_waiting (departed_in l.trace l.standings) (drop l.fn.from l.trace)
    ≡ l.place + first_waiting (departed_in l.trace l.standings) (drop l.place l.trace)

abbrev pub decreases-loop-place : goal.decreases-loop-place
decreases-loop-place l = length l.trace - l.place
