use Rattle.machine.specs.Follows.{IsReady}
use Rattle.benches.proofs.pages.engine.run_to_end.Given as goal

abbrev pub invariant-loop : goal.invariant-loop
invariant-loop l = IsReady l.machine
