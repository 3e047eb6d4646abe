use Rattle.std.specs.Prelude.{[]}
use Rattle.script_tree.specs.Programs.{Program}
use Rattle.script_tree.specs.Requests.{Request}
use Rattle.machine.specs.Follows.{Follows, IsReady}
use Rattle.group_runner.specs.Told.{answers_to}
use Rattle.group_runner.proofs.Runs.{AreGood}
use Rattle.group_runner.proofs.runner.Runner.run_on.Given as goal

abbrev pub invariant-loop-done : goal.invariant-loop-done
invariant-loop-done l = record {
  ready : IsReady l.machine;
  good : (program : Program) (q : Request) → Follows program q [] l.fn.machine → AreGood program l.self.evidence.now l.rid q l.done;
  follows : (program : Program) (q : Request) → Follows program q [] l.fn.machine → Follows program q (answers_to l.self.evidence.now l.rid l.done) l.machine;
}
