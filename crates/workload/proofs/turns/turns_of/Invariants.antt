use Rattle.std.proofs.Common.{◌≡◌, true, map, pos, take}
use Rattle.std.specs.List.{list_all}
use Rattle.workload.specs.Seats.{is_seat}
use Rattle.workload.proofs.turns.turns_of.Given as goal

-- the turns so far are those of the numbers so far, which are of seats
abbrev pub invariant-loop-number : goal.invariant-loop-number
invariant-loop-number l = record {
  same : map pos l.turns.items ≡ take l.number-index l.numbers;
  seats : list_all is_seat (take l.number-index l.numbers) ≡ true;
}
