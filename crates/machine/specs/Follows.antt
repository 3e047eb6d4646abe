-- That a machine stands where the program stands after some answers.
use Rattle.std.specs.Prelude.{◌≡◌, ℕ, ◌+◌, List, [], ◌++◌, Some, None}
use Rattle.script_tree.specs.Datum.{Datum}
use Rattle.script_tree.specs.Programs.{Program}
use Rattle.script_tree.specs.Requests.{Request}
use Rattle.script_meaning.specs.Conduct.{conduct, start}
use Rattle.script_meaning.specs.Evaluate.{Flow}
use Rattle.script_meaning.specs.Operations.{Op}
use Rattle.script_meaning.specs.Run.{Ran, stops}
use Rattle.script_meaning.specs.declared.run.Mark.{Mark}
use Rattle.script_meaning.specs.declared.run.Stop.TheVariants.{AnswerFault as answer_fault}
use Rattle.script_code.specs.Code.{Entry}
use Rattle.script_code.specs.CodeRun.{exec}
use Rattle.script_code.specs.Translated.{IsCodeOf, pages_of}
use Rattle.script_code.specs.declared.translate.Code.{Code}
use Rattle.machine.specs.Does.{onward, answered_on}
use Rattle.machine.specs.Gives.{progress_of}
use Rattle.machine.specs.Trail.{bare_trail}
use Rattle.machine.specs.declared.ending.MachineStep.{MachineStep}
use Rattle.machine.specs.declared.ending.MachineStep.TheVariants.{Wants, Ends}
use Rattle.machine.specs.declared.machine.Machine.{Machine}
use Rattle.machine.specs.declared.machine.Phase.{Phase}
use Rattle.machine.specs.declared.machine.Phase.TheVariants.{Running, Waiting, Refused, NoPage, Over, Exhausted}
use Rattle.machine.specs.declared.run.Run.{Run}

-- ---- what a machine can be asked for

-- where what is next of a run can be done
abbrev pub ready_in : Phase → Type 0
ready_in Running = Unit {0}
ready_in Waiting = ⊥
ready_in Refused = Unit {0}
ready_in NoPage = Unit {0}
ready_in Over = ⊥
ready_in Exhausted = Unit {0}

-- it can be run
abbrev pub IsReady : Machine → Type 0
IsReady m = ready_in m.phase

-- it waits for an answer
abbrev pub IsWaiting : Machine → Type 0
IsWaiting m = m.phase ≡ Waiting

-- its run is over
abbrev pub IsOver : Machine → Type 0
IsOver m = m.phase ≡ Over

-- where a run went as far as it can
abbrev pub stopped_in : Phase → Type 0
stopped_in Running = ⊥
stopped_in Waiting = Unit {0}
stopped_in Refused = ⊥
stopped_in NoPage = ⊥
stopped_in Over = Unit {0}
stopped_in Exhausted = ⊥

-- it waits for an answer, or its run is over
abbrev pub IsStopped : Machine → Type 0
IsStopped m = stopped_in m.phase

-- it ran out of memory
abbrev pub IsExhausted : Machine → Type 0
IsExhausted m = m.phase ≡ Exhausted

-- Where it wants an operation, it waits for the answer; where it ends, its run is over.
abbrev pub WaitsAfter : MachineStep → Machine → Type 0
WaitsAfter (Wants op) m = IsWaiting m
WaitsAfter (Ends response path) m = IsOver m

-- ---- where it stands

-- one run of instructions leads to another: after some number of them it does what the other does
abbrev pub Reaches : (ℕ → Ran Flow) → (ℕ → Ran Flow) → Type 0
Reaches here there = (n : ℕ) × ((k : ℕ) → here (n + k) ≡ there k)

-- the run of a page from its start with these answers, within so many instructions
abbrev pub begun : Request → Code → Entry → List Datum → ℕ → Ran Flow
begun q code entry answers k = exec q code.functions.items code.instructions.items k [] entry.place [] [] (start answers)

-- Whatever answers are still to come, the run from its start leads there.
pub record Leads (q : Request) (code : Code) (entry : Entry) (answers : List Datum) (there : (ops : List Op) (more : List Datum) → ℕ → Ran Flow) : Type 0 where
  -- the operations that were answered, the last one first
  pub ops : List Op
  pub leads : (more : List Datum) → Reaches (begun q code entry (answers ++ more)) (there ops more)

-- the run goes on where the machine stands
abbrev pub going : Request → Code → Run → (ops : List Op) (more : List Datum) → ℕ → Ran Flow
going q code r ops more k = onward (exec q code.functions.items code.instructions.items k) r ops more

-- it goes on there with the answer to this operation
abbrev pub wanting : Request → Code → Run → Op → (ops : List Op) (more : List Datum) → ℕ → Ran Flow
wanting q code r op ops more k = answered_on (exec q code.functions.items code.instructions.items k) r op ops more

-- it stops at an answer beyond the limits of a value
abbrev pub refused : Run → (ops : List Op) (more : List Datum) → ℕ → Ran Flow
refused r ops more k = stops answer_fault (progress_of r.state.account ops more)

-- The run from its start with these answers leads to where the machine stands, by what is next of it.
abbrev pub IsThere : Request → Code → Entry → List Datum → Run → Phase → Type 0
IsThere q code entry answers r Running = Leads q code entry answers (going q code r)
IsThere q code entry answers r Waiting = (op : Op) × Leads q code entry answers (wanting q code r op)
IsThere q code entry answers r Refused = Leads q code entry answers (refused r)
IsThere q code entry answers r NoPage = ⊥
IsThere q code entry answers r Over = Unit {0}
IsThere q code entry answers r Exhausted = ⊥

-- on the page of the request's path
abbrev pub OnPage : Request → Code → List Datum → (page : ℕ) → Run → Phase → Type 0
OnPage q code answers page r phase = (entry : Entry) × (pages_of code q.path ≡ Some entry) × (entry.number ≡ page) × IsThere q code entry answers r phase

-- It left these marks.
abbrev pub HasTrail : List Mark → Run → Type 0
HasTrail marks r = r.state.account.trail.items ≡ bare_trail marks

-- The machine stands where the program stands after these answers, on this page, by what is next of its run.
abbrev pub StandsIn : Program → Request → Code → List Datum → (page : ℕ) → Run → Phase → Type 0
StandsIn program q code answers page r Running = OnPage q code answers page r Running
StandsIn program q code answers page r Waiting = OnPage q code answers page r Waiting
StandsIn program q code answers page r Refused = OnPage q code answers page r Refused
StandsIn program q code answers page r NoPage = (pages_of code q.path ≡ None) × (answers ≡ []) × HasTrail [] r
StandsIn program q code answers page r Over = HasTrail (conduct program q answers).trail r
StandsIn program q code answers page r Exhausted = ⊥

-- at a place of the code, with nothing done
pub record IsFresh (place : ℕ) (r : Run) : Type 0 where
  pub frames : r.frames ≡ []
  pub place' : r.place ≡ place
  pub stack : r.state.stack ≡ []
  pub slots : r.state.slots.items ≡ []
  pub account : (answers : List Datum) → progress_of r.state.account [] answers ≡ start answers

-- After these answers the machine of this request stands where the program stands.
pub record Follows (program : Program) (q : Request) (answers : List Datum) (m : Machine) : Type 0 where
  pub code : IsCodeOf program m.code.now
  pub request : m.request ≡ q
  pub stands : StandsIn program q m.code.now answers m.page m.run m.phase
