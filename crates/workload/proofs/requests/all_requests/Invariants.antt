use Rattle.std.proofs.Common.{◌≡◌, ◌++◌}
use Rattle.std.specs.List.{list_all}
use Rattle.std.specs.Vec.Iter.{into_iter_items}
use Rattle.script_tree.specs.Requests.{is_request_within_limits}
use Rattle.workload.proofs.requests.all_requests.Given as goal

-- all are those so far, which are within the limits, and the jobs that are left
abbrev pub invariant-loop-job : goal.invariant-loop-job
invariant-loop-job l = record {
  all : l.fn.jobs.items ≡ l.requests.items ++ into_iter_items l.job-iterator;
  within : list_all is_request_within_limits l.fn.jobs.items ≡ list_all is_request_within_limits (into_iter_items l.job-iterator);
}
