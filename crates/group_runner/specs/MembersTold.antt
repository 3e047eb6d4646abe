-- What the run of a member leaves, as definitions have it.
use Rattle.std.specs.Prelude.{◌≡◌, ℕ, List, [], ◌∷◌, ◌++◌, Option, Some, None}
use Rattle.script_tree.specs.Datum.{Datum}
use Rattle.script_tree.specs.Programs.{Program}
use Rattle.script_tree.specs.Requests.{Request}
use Rattle.period.specs.Traces.{response_of}
use Rattle.object_set.specs.ObjectSets.{objects_of}
use Rattle.script_meaning.specs.Conduct.{conduct}
use Rattle.machine.specs.Follows.{Follows}
use Rattle.machine.specs.Told.{ending_of}
use Rattle.machine.specs.declared.ending.MachineStep.{MachineStep}
use Rattle.machine.specs.declared.machine.Machine.{Machine}
use Rattle.audit_meaning.specs.Groups.{marks, done, end_of, gives, steps_to}
use Rattle.audit_meaning.specs.Members.{performed}
use Rattle.group_runner.specs.Marks.{marks_in}
use Rattle.group_runner.specs.Told.{Told, answers_to, answer_to, steps_of}
use Rattle.group_runner.specs.Findings.{FindsAll}
use Rattle.group_runner.specs.declared.groups.GroupRun.{GroupRun}
use Rattle.group_runner.specs.declared.member.Member.{Member}
use Rattle.group_runner.specs.declared.run.Run.{Run}

-- After these answers it was answered as the report has it for an operation, or it stopped with what it wants or how it ended.
abbrev pub GoesOn : Program → Request → List Datum → Told → ℕ → ℕ → Machine → Option MachineStep → Type 0
GoesOn program q answers t r k m None =
    (d : Datum) × (answer_to t r k (conduct program q answers).ending ≡ Some d) × Follows program q (answers ++ d ∷ []) m
GoesOn program q answers t r k m (Some step) =
    (answer_to t r k (conduct program q answers).ending ≡ None) × (ending_of step ≡ (conduct program q answers).ending) × Follows program q answers m

module _ (program : Program) (t : Told) where
  -- It ran as far as its operations are those of the report.
  pub record IsRunOf (r : ℕ) (request : Request) (run : Run) : Type 0 where
    pub done' : run.done ≡ performed program (objects_of t.start) t.report r request
    pub follows : Follows program request (answers_to t r run.done) run.machine
    pub ending : ending_of run.step ≡ (conduct program request (answers_to t r run.done)).ending

  -- It is what the member of this id leaves.
  pub record IsMemberOf (r : ℕ) (m : Member) : Type 0 where
    pub marks' : marks_in m.marks.items ≡ marks program (objects_of t.start) t.trace t.report r
    pub done' : m.done ≡ done program (objects_of t.start) t.trace t.report r
    pub steps' : m.steps ≡ steps_to (end_of program (objects_of t.start) t.trace t.report r)
    pub gives' : m.gives ≡ gives (end_of program (objects_of t.start) t.trace t.report r) (response_of t.trace r)

  -- It is what the first member and these leave together.
  pub record IsGroupRunOf (first : ℕ) (rids : List ℕ) (x : GroupRun) : Type 0 where
    pub found : (group : ℕ) → FindsAll program t group first rids x.findings
    pub steps' : x.steps ≡ steps_of program t (first ∷ rids)
