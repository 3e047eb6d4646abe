use Rattle.std.proofs.Common.{take}
use Rattle.script_tree.specs.Programs.{Program}
use Rattle.script_code.specs.Translated.{IsCodeOf}
use Rattle.group_runner.specs.MembersTold.{IsGroupRunOf, IsMemberOf}
use Rattle.group_runner.proofs.groups.run_beside.Given as goal

abbrev pub invariant-loop-rid : goal.invariant-loop-rid
invariant-loop-rid l =
    (program : Program) → IsCodeOf program l.runner.code.now
    → IsMemberOf program l.runner.evidence.now l.first_rid l.first
    → IsGroupRunOf program l.runner.evidence.now l.first_rid (take l.rid-index l.others) (record { findings = l.findings; steps = l.steps })
