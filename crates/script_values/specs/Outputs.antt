-- What a part of a run does to its output, the status and the body of its response so far.
use Rattle.std.specs.Prelude.{◌≡◌, [], Result, Ok, Err}
use Rattle.basis.specs.declared.or_memory.OrMemory.{OrMemory}
use Rattle.basis.specs.declared.or_memory.OrMemory.TheVariants.{Memory, Other}
use Rattle.script_tree.specs.Datum.{Datum}
use Rattle.script_tree.specs.declared.fault.ScriptFault.{ScriptFault}
use Rattle.script_tree.specs.declared.request.Response.{Response}
use Rattle.script_meaning.specs.Evaluate.{set_status}
use Rattle.script_meaning.specs.Operands.{status_in}
use Rattle.script_meaning.specs.Run.{Progress, Ran, Run, goes, stops, unless_fault, ◌>>=◌}
use Rattle.script_meaning.specs.declared.run.Stop.TheVariants.{Fault as fault}
use Rattle.script_meaning.specs.declared.status.TheConstants.{USUAL_STATUS}

-- of a run that printed nothing, and set no status
abbrev pub no_output : Response
no_output = record { status = USUAL_STATUS; body = [] }

-- the status of a response is set, by the value that a page gives for it
abbrev pub set_status_in : Datum → Run (Unit {0})
set_status_in d = unless_fault (status_in d) >>= set_status

-- a progress with this output
abbrev pub with_output : Response → Progress → Progress
with_output output p = record p { status = output.status; body = output.body }

-- The run goes on with this progress, or stops so at the fault that was returned. Of a call that ran out of memory nothing
-- is said.
abbrev pub TellsRan : Result (Unit {0}) (OrMemory ScriptFault) → Progress → Ran (Unit {0}) → Type 0
TellsRan (Ok u) p o = o ≡ goes tt p
TellsRan (Err Memory) p o = Unit {0}
TellsRan (Err (Other f)) p o = o ≡ stops (fault f) p

-- The part of a run takes one output to the other, whatever else was spent and done.
abbrev pub Outputs : Run (Unit {0}) → Response → Result (Unit {0}) (OrMemory ScriptFault) → Response → Type 0
Outputs part old result new = (p : Progress) → TellsRan result (with_output new p) (part (with_output old p))
