use Rattle.std.proofs.Common.{◌≡◌, ◌+◌, ◌-◌, ◌<◌}
use Rattle.std.specs.Prelude.{vec_capacity, vec_len}
use Rattle.history.specs.Seats.{at_seat}
use Rattle.history.proofs.seats.put_at.Given as goal

-- There is room up to the place, and what was there is there.
abbrev pub invariant-loop-seats : goal.invariant-loop-seats
invariant-loop-seats g l = (l.place < vec_capacity l.seats) × (at_seat l.seats.items ≡ at_seat l.initial.seats.items)

abbrev pub decreases-loop-seats : goal.decreases-loop-seats
decreases-loop-seats g l = l.place + 1 - vec_len l.seats
