use Rattle.workload.proofs.OneWay.{one_thing, one_fault, thing_or_fault, same_seats}
use Rattle.workload.specs.Jobs.{jobs_of, are_within_limits}
use Rattle.workload.specs.Seats.{numbers_of, are_seats}
use Rattle.std.proofs.Common.{map, pos}
use Rattle.workload.proofs.law.one_way.Goals as goal

pub returns-clause-requests : goal.returns-clause-requests
returns-clause-requests c = record {
  lists = one_thing jobs_of are_within_limits;
  faults = one_fault jobs_of are_within_limits;
  apart = thing_or_fault jobs_of are_within_limits;
}

pub returns-clause-turns : goal.returns-clause-turns
returns-clause-turns c = record {
  lists = λ bytes x y h k. same_seats x y (one_thing numbers_of are_seats bytes (map pos x) (map pos y) h k);
  faults = one_fault numbers_of are_seats;
  apart = λ bytes x. thing_or_fault numbers_of are_seats bytes (map pos x);
}
