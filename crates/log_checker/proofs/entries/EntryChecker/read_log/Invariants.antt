use Rattle.std.proofs.Common.{◌≡◌, List, Some, take}
use Rattle.std.specs.Option.{option_copied}
use Rattle.basis.specs.Lists.{nth}
use Rattle.script_tree.specs.Programs.{Program}
use Rattle.object_set.specs.ObjectSets.{objects_of, IsSetOf}
use Rattle.period.specs.declared.report.Report.{Report}
use Rattle.audit_meaning.specs.Lists.{last}
use Rattle.audit_meaning.specs.Spots.{Spot}
use Rattle.log_checker.specs.Entries.{Knows}
use Rattle.log_checker.proofs.EntryFacts.{LogRead}
use Rattle.log_checker.proofs.entries.EntryChecker.read_log.Given as goal

abbrev pub invariant-loop-index : goal.invariant-loop-index
invariant-loop-index l = record {
  read : (program : Program) (report : Report) (earlier : List Spot) → IsSetOf program l.self.start.now → Knows report earlier l.fn.map
      → nth report.logs l.number ≡ Some l.log
      → LogRead program (objects_of l.self.start.now) l.self.trace.now report earlier l.log l.index l.map l.time;
  before : option_copied l.before ≡ last (take l.index l.log.entries);
}
