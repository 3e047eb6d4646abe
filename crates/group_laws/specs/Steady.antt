-- That a run never goes back, and where it may fail.
use Rattle.std.specs.Prelude.{◌≡◌, ◌≤◌, ◌<◌, ◌⊎◌, ℕ, nat_eq, Bool, true, false, List, ◌++◌}
use Rattle.script_tree.specs.Datum.{Datum}
use Rattle.script_tree.specs.Faults.{fault_number}
use Rattle.script_tree.specs.Requests.{Request}
use Rattle.script_tree.specs.declared.fault.ScriptFault.{ScriptFault}
use Rattle.script_tree.specs.declared.fault.ScriptFault.TheVariants.{OutOfSteps}
use Rattle.script_meaning.specs.Run.{Progress, Ran, goes, stops, Run}
use Rattle.script_meaning.specs.declared.run.Mark.{Mark}
use Rattle.script_meaning.specs.declared.run.Stop.TheVariants.{Wants as wants, Fault as fault, AnswerFault as answer_fault}
use Rattle.script_code.specs.Code.{Instructions}
use Rattle.script_code.specs.CodeRun.{Frame, Next, exec}

-- how far a run came
abbrev pub progress_in : {A : Type 0} → Ran A → Progress
progress_in (goes a p) = p
progress_in (stops e p) = p

-- As many steps are spent or more, and the trail is the same or has more marks after it.
pub record IsFurther (before after' : Progress) : Type 0 where
  pub steps' : before.steps ≤ after'.steps
  pub more : List Mark
  pub trail' : after'.trail ≡ before.trail ++ more

-- Where it fails, a step was spent since, or none was left, or the fault is one of these.
abbrev pub FailsLater : {A : Type 0} → (ScriptFault → Bool) → Progress → Ran A → Type 0
FailsLater faults before (goes a p) = Unit {0}
FailsLater faults before (stops (wants op) p) = Unit {0}
FailsLater faults before (stops (fault f) p) = (f ≡ OutOfSteps) ⊎ ((before.steps < p.steps) ⊎ (faults f ≡ true))
FailsLater faults before (stops answer_fault p) = before.steps < p.steps

-- It never goes back, and fails only after it spent a step, or for want of steps, or at one of these faults.
pub record IsSteadyBut {A : Type 0} (faults : ScriptFault → Bool) (run : Run A) : Type 0 where
  pub further : (p : Progress) → IsFurther p (progress_in (run p))
  pub later : (p : Progress) → FailsLater faults p (run p)

-- no fault
abbrev pub no_fault : ScriptFault → Bool
no_fault f = false

-- this fault alone
abbrev pub only : ScriptFault → ScriptFault → Bool
only one f = nat_eq (fault_number one) (fault_number f)

-- It never goes back, and fails only after it spent a step, or for want of steps.
abbrev pub IsSteady : {A : Type 0} → Run A → Type 0
IsSteady run = IsSteadyBut no_fault run

-- What comes next does so, wherever it goes on.
abbrev pub IsSteadyNext : Next → Type 0
IsSteadyNext next = (frames : List Frame) (place : ℕ) (stack slots : List Datum) → IsSteady (next frames place stack slots)

-- Code does so, however many instructions it may do.
abbrev pub CodeIsSteady : Type 0
CodeIsSteady = (q : Request) (functions : List ℕ) (code : Instructions) (n : ℕ) → IsSteadyNext (exec q functions code n)
