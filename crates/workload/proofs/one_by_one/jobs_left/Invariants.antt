use Rattle.std.proofs.Common.{◌≡◌, ℕ, ◌≤◌, true, length}
use Rattle.std.specs.List.{list_all}
use Rattle.script_tree.specs.Requests.{is_request_within_limits}
use Rattle.script_tree.specs.declared.limits.TheConstants.{MOST_REQUESTS}
use Rattle.workload.proofs.OneByOne.{GoOn}
use Rattle.workload.proofs.one_by_one.jobs_left.Given as goal

-- the jobs so far are within the limits, and with those that are left they are all jobs
abbrev pub invariant-jobs : goal.invariant-jobs
invariant-jobs l = record {
  turns : ℕ;
  enough : length l.reader ≤ turns;
  all : GoOn l.initial.reader l.requests.items turns l.reader;
  few : length l.requests.items ≤ MOST_REQUESTS;
  within : list_all is_request_within_limits l.requests.items ≡ true;
}

abbrev pub decreases-jobs : goal.decreases-jobs
decreases-jobs l = length l.reader
