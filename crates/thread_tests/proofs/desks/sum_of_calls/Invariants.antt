use Rattle.shared_desk.specs.Seats.{IsSeatOf}
use Rattle.thread_tests.proofs.desks.sum_of_calls.Given as goal

abbrev pub invariant-loop : goal.invariant-loop
invariant-loop g l = IsSeatOf l.desk l.seat
