use Rattle.script_tree.specs.Programs.{Program}
use Rattle.script_code.specs.Translated.{IsCodeOf}
use Rattle.group_lockstep.proofs.AllGroups.{AreSound, IsSpentTo}
use Rattle.group_lockstep.proofs.groups.run_groups.Given as goal

abbrev pub invariant-loop-number : goal.invariant-loop-number
invariant-loop-number g l = record {
  sound : (program : Program) → IsCodeOf program l.code → AreSound program l.evidence l.number;
  spends : (program : Program) → IsCodeOf program l.code → IsSpentTo program l.evidence l.number l.fn.evaluations l.evaluations l.steps;
}
