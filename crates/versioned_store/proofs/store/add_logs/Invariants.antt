use Rattle.std.proofs.Common.{◌≡◌, map, take}
use Rattle.versioned_store.specs.Logged.{logged}
use Rattle.versioned_store.proofs.store.add_logs.Given as goal

abbrev pub invariant-loop-log : goal.invariant-loop-log
invariant-loop-log l = l.versioned.items ≡ map (logged l.start) (take l.log-index l.logs)
