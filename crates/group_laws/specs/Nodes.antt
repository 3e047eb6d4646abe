-- That nodes of which one fails otherwise show it.
use Rattle.std.specs.Prelude.{◌≡◌, ◌≢◌, Bool, false, length, Option, Some, None, Result, Ok, Err}
use Rattle.script_tree.specs.Datum.{Datum, bool}
use Rattle.script_tree.specs.declared.fault.ScriptFault.{ScriptFault}
use Rattle.script_meaning.specs.Evaluate.{Flow}
use Rattle.script_meaning.specs.Run.{Progress, Run, ◌>>=◌}
use Rattle.script_meaning.specs.ValueFaults.{FailsByValues}
use Rattle.script_values.specs.declared.builtins.Called.{Called}
use Rattle.script_values.specs.declared.builtins.Called.TheVariants.{Value, Operation}
use Rattle.script_nodes.specs.Evaluated.{gone_on}
use Rattle.group_laws.specs.Shown.{shown_of}
use Rattle.group_laws.specs.Steady.{IsSteadyBut}

-- the fault that a node comes to, if it fails
abbrev pub node_fault : Result Called ScriptFault → Option ScriptFault
node_fault (Ok called) = None
node_fault (Err f) = Some f

-- A node may have this value: it comes to it, or to an operation, which may be answered so.
abbrev pub MayGive : Result Called ScriptFault → Datum → Type 0
MayGive (Ok (Value x)) d = d ≡ x
MayGive (Ok (Operation op)) d = Unit {0}
MayGive (Err f) d = ⊥

-- A value that the node may have is a truth.
abbrev pub GivesTruth : Result Called ScriptFault → Type 0
GivesTruth node = (d : Datum) → MayGive node d → (b : Bool) × (d ≡ bool b)

-- If the node fails, it isn't at one of these faults.
abbrev pub LacksFaults : (ScriptFault → Bool) → Result Called ScriptFault → Type 0
LacksFaults faults (Ok called) = Unit {0}
LacksFaults faults (Err f) = faults f ≡ false

-- The run goes on steadily after a node that comes to this: it has these faults at once, and no other before a step.
abbrev pub GoesOn : (ScriptFault → Bool) → Result Called ScriptFault → (Datum → Run Flow) → Type 0
GoesOn faults node onward = (d : Datum) → MayGive node d → IsSteadyBut faults (onward d)

-- After as many steps and marks, two nodes of which one has another fault, or one of both has none, show it.
abbrev pub NodesShow : Type 0
NodesShow = (faults : ScriptFault → Bool) (one other : Result Called ScriptFault) (onward elsewhere : Datum → Run Flow) (p q : Progress)
    → FailsByValues one → FailsByValues other → LacksFaults faults one → LacksFaults faults other
    → GoesOn faults one onward → GoesOn faults other elsewhere → p.steps ≡ q.steps → length p.trail ≡ length q.trail
    → node_fault one ≢ node_fault other → shown_of ((gone_on one >>= onward) p) ≢ shown_of ((gone_on other >>= elsewhere) q)
