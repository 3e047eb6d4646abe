use Rattle.script_tree.specs.Programs.{Program}
use Rattle.object_set.specs.ObjectSets.{objects_of, IsSetOf}
use Rattle.log_checker.proofs.EntryFacts.{LogsRead}
use Rattle.log_checker.proofs.entries.EntryChecker.read_logs.Given as goal

abbrev pub invariant-loop-number : goal.invariant-loop-number
invariant-loop-number l = (program : Program) → IsSetOf program l.self.start.now
    → LogsRead program (objects_of l.self.start.now) l.self.trace.now l.report l.number l.map
