-- How runs go on.
use Rattle.std.proofs.Common.{refl, Err}
use Rattle.basis.specs.declared.or_memory.OrMemory.{OrMemory}
use Rattle.basis.specs.declared.or_memory.OrMemory.TheVariants as values
use Rattle.script_tree.specs.declared.fault.ScriptFault.{ScriptFault}
use Rattle.script_meaning.specs.Run.{Progress, Run, Ran, after}
use Rattle.script_values.specs.Outputs.{TellsRan}
use Rattle.page_walker.specs.Gives.{Stops, stopped_by}
use Rattle.page_walker.specs.declared.run.Stopped.{Stopped}
use Rattle.page_walker.specs.declared.run.Stopped.TheVariants.{Memory, Stop}

-- a run that stops at its first part stops
pub stops_first : {A B : Type 0} (e : Stopped) (p : Progress) (o : Ran A) (f : A → Run B) → Stops e p o → Stops e p (after o f)
stops_first Memory p o f h = tt
stops_first (Stop e) p o f h = rw h refl

-- a run stops where its output does
pub output_stops : (e : OrMemory ScriptFault) (p : Progress) (o : Ran (Unit {0})) → TellsRan (Err e) p o → Stops (stopped_by e) p o
output_stops values.Memory p o h = tt
output_stops (values.Other f) p o h = h
