-- What a function of the walker returned is what the definition gives.
use Rattle.std.specs.Prelude.{◌≡◌, if◌then◌else◌, Result, Ok, Err}
use Rattle.basis.specs.declared.or_memory.OrMemory.{OrMemory}
use Rattle.basis.specs.declared.or_memory.OrMemory.TheVariants as values
use Rattle.script_tree.specs.Datum.{Datum, is_within_limits}
use Rattle.script_tree.specs.declared.fault.ScriptFault.{ScriptFault}
use Rattle.script_meaning.specs.declared.run.Stop.TheVariants.{Fault as fault, AnswerFault as answer_fault}
use Rattle.script_meaning.specs.Run.{Progress, Ran, Run, goes, stops}
use Rattle.page_walker.specs.declared.run.Stopped.{Stopped}
use Rattle.page_walker.specs.declared.run.Stopped.TheVariants.{Memory, Stop}

-- a fault of values is a reason to stop
abbrev pub stopped_by : OrMemory ScriptFault → Stopped
stopped_by values.Memory = Memory
stopped_by (values.Other f) = Stop (fault f)

-- The run stops for this reason, with this progress. Of a call that ran out of memory nothing is said.
abbrev pub Stops : {A : Type 0} → Stopped → Progress → Ran A → Type 0
Stops Memory p o = Unit {0}
Stops (Stop e) p o = o ≡ stops e p

-- The run goes on with the value that was returned, seen by a view, or it stops.
abbrev pub Gives : {X A : Type 0} → (X → A) → Result X Stopped → Progress → Ran A → Type 0
Gives view (Ok x) p o = o ≡ goes (view x) p
Gives view (Err e) p o = Stops e p o

-- The run goes on with an answer that is within the limits of a value, and stops at another.
abbrev pub admitted : Datum → Run Datum
admitted d p = if is_within_limits d then goes d p else stops answer_fault p

-- The run goes on with the value that was returned, or it stops.
abbrev pub GivesValue : Result Datum Stopped → Progress → Ran Datum → Type 0
GivesValue result p o = Gives (λ d. d) result p o
