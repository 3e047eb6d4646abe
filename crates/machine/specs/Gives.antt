-- What a part of a run returned is what the definition gives.
use Rattle.std.specs.Prelude.{reverse, ◌≡◌, Bool, List, [], ◌∷◌, ◌++◌, None, Result, Ok, Err}
use Rattle.basis.specs.declared.or_memory.OrMemory.{OrMemory}
use Rattle.basis.specs.declared.or_memory.OrMemory.TheVariants as values
use Rattle.script_tree.specs.Datum.{Datum, null, bool}
use Rattle.script_tree.specs.declared.fault.ScriptFault.{ScriptFault}
use Rattle.script_code.specs.CodeRun.{lacking}
use Rattle.script_tree.specs.declared.operation.Act.TheVariants.{Now}
use Rattle.script_tree.specs.declared.operation.Object.TheVariants.{Clock}
use Rattle.script_meaning.specs.Operations.{Op}
use Rattle.script_meaning.specs.Run.{Progress, Ran, goes, stops, Run, charge, taking, decide_by}
use Rattle.script_meaning.specs.declared.run.Mark.{Mark}
use Rattle.script_meaning.specs.declared.run.Mark.TheVariants.{Decided as decided, Issued as issued}
use Rattle.script_meaning.specs.declared.run.Stop.TheVariants.{Fault as fault}
use Rattle.machine.specs.declared.account.Account.{Account}
use Rattle.machine.specs.declared.account.BareMark.{BareMark}
use Rattle.machine.specs.declared.account.BareMark.TheVariants as left
use Rattle.machine.specs.declared.stopped.Stopped.{Stopped}
use Rattle.machine.specs.declared.stopped.Stopped.TheVariants.{Memory, Wants, Fault}

-- an operation of which nothing is told
abbrev pub untold : Op
untold = record { object = Clock; act = Now }

-- The marks of a trail that is read backwards, as are the operations that belong in their places.
abbrev pub marks_back : List BareMark → List Op → List Mark
marks_back [] ops = []
marks_back (left.Decided b ∷ ts) ops = decided b ∷ marks_back ts ops
marks_back (left.Issued ∷ ts) [] = issued untold ∷ marks_back ts []
marks_back (left.Issued ∷ ts) (op ∷ ops) = issued op ∷ marks_back ts ops

-- the marks of a trail with these operations, the last one first
abbrev pub marks_of : List BareMark → List Op → List Mark
marks_of ts ops = reverse (marks_back (reverse ts) ops)

-- the progress of a run that issued these operations, the last one first, and whose operations to come get these answers
abbrev pub progress_of : Account → (ops : List Op) → (more : List Datum) → Progress
progress_of a ops more = record {
  steps = a.steps;
  operations = a.operations;
  costs = None;
  trail = marks_of a.trail.items ops;
  answers = more;
  status = a.output.status;
  body = a.output.body;
}

-- a step is spent; no machine keeps what on, so that any cost will do
abbrev pub spend : Run (Unit {0})
spend = charge (taking [])

-- it is decided so, by any operand
abbrev pub decide_so : Bool → Run Bool
decide_so b = decide_by null (bool b)

-- a fault of values is a reason to stop
abbrev pub stopped_by : OrMemory ScriptFault → Stopped
stopped_by values.Memory = Memory
stopped_by (values.Other f) = Fault f

-- The run stops at a fault, with this progress. Of a call that ran out of memory nothing is said. No operation is wanted.
abbrev pub Stops : {A : Type 0} → Stopped → Progress → Ran A → Type 0
Stops Memory p o = Unit {0}
Stops (Wants op) p o = ⊥
Stops (Fault f) p o = o ≡ stops (fault f) p

-- The run goes on with the value that was returned, seen by a view, or it stops.
abbrev pub Gives : {X A : Type 0} → (X → A) → Result X Stopped → Progress → Ran A → Type 0
Gives view (Ok x) p o = o ≡ goes (view x) p
Gives view (Err e) p o = Stops e p o

-- The topmost value is taken off, or there is none.
abbrev pub Pops : List Datum → List Datum → Result Datum Stopped → Type 0
Pops old new (Ok d) = old ≡ d ∷ new
Pops old new (Err Memory) = Unit {0}
Pops old new (Err (Wants op)) = ⊥
Pops old new (Err (Fault f)) = (old ≡ []) × (f ≡ lacking)

-- The mark of an operation is left, and all else is as it was.
pub record IsNoted (old new : Account) : Type 0 where
  pub steps : new.steps ≡ old.steps
  pub operations : new.operations ≡ old.operations
  pub trail : new.trail.items ≡ old.trail.items ++ left.Issued ∷ []
  pub output : new.output ≡ old.output
