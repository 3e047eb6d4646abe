-- Nodes of which one fails otherwise show it.
use Rattle.std.proofs.Common.{◌≡◌, ◌≢◌, true, false, Bool, length, Some, Ok, Err, refl, sym, ap}
use Rattle.script_tree.specs.Datum.{Datum}
use Rattle.script_tree.specs.declared.fault.ScriptFault.{ScriptFault}
use Rattle.script_meaning.proofs.ValueFaults.{not_steps}
use Rattle.script_meaning.specs.Evaluate.{Flow}
use Rattle.script_meaning.specs.Run.{Progress, Run, stops, ◌>>=◌}
use Rattle.script_meaning.specs.declared.run.Stop.TheVariants.{Fault as fault}
use Rattle.script_nodes.specs.Evaluated.{gone_on}
use Rattle.group_laws.specs.Shown.{shown_of}
use Rattle.script_meaning.specs.ValueFaults.{is_of_values}
use Rattle.script_values.specs.declared.builtins.Called.{Called}
use Rattle.script_values.specs.declared.builtins.Called.TheVariants.{Value, Operation}
use Rattle.group_laws.specs.Nodes.{GoesOn, NodesShow}
use Rattle.group_laws.proofs.Parting.{parting_shows}

module _ (faults : ScriptFault → Bool) where
  -- one fails, the other goes on
  alone : (called : Called) (f : ScriptFault) (onward : Datum → Run Flow) (p q : Progress) → is_of_values f ≡ true → faults f ≡ false
      → GoesOn faults (Ok called) onward → p.steps ≡ q.steps → length p.trail ≡ length q.trail
      → shown_of ((gone_on (Ok called) >>= onward) p) ≢ shown_of (stops (fault f) q)
  alone (Value d) f onward p q by_values lacks goes steps marks =
      parting_shows.fails_alone faults (onward d) p q f (goes d refl) steps (not_steps f by_values) lacks
  alone (Operation op) f onward p q by_values lacks goes steps marks =
      parting_shows.issues_alone faults op onward p q f (λ d. goes d tt) marks by_values

pub nodes_show : NodesShow
nodes_show faults (Ok a) (Ok b) onward elsewhere p q h k lacks lacks' goes goes' steps marks unlike same = unlike refl
nodes_show faults (Ok a) (Err g) onward elsewhere p q h k lacks lacks' goes goes' steps marks unlike same =
    alone faults a g onward p q k lacks' goes steps marks same
nodes_show faults (Err f) (Ok b) onward elsewhere p q h k lacks lacks' goes goes' steps marks unlike same =
    alone faults b f elsewhere q p h lacks goes' (sym steps) (sym marks) (sym same)
nodes_show faults (Err f) (Err g) onward elsewhere p q h k lacks lacks' goes goes' steps marks unlike same =
    parting_shows.fails_otherwise p q f g (λ is. unlike (ap (λ e. Some e) is)) same
