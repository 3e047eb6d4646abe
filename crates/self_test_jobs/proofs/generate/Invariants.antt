use Rattle.std.proofs.Common.{◌≡◌, ◌-◌, ◌++◌}
use Rattle.self_test_jobs.specs.Generated.{drawn_from}
use Rattle.self_test_jobs.proofs.generate.Given as goal

-- all are those so far, and those of the draws that are left
abbrev pub invariant-loop : goal.invariant-loop
invariant-loop l = drawn_from l.fn.n l.fn.n ≡ l.requests.items ++ drawn_from (l.n - l.counter) l.draws.x
