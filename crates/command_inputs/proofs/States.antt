-- A state that was read whole, and its fault.
use Rattle.object_set.specs.ObjectSets.{HeldObjects, objects_of}
use Rattle.state_file.specs.Starts.{IsStart}
use Rattle.std.proofs.Common.{ℕ, List, Option, Some, None, Ok, Err, inr, subst}
use Rattle.script_tree.specs.Programs.{Program}
use Rattle.state_file.specs.States.{HasStateFault}
use Rattle.state_file.specs.declared.fault.StateFault.{StateFault}
use Rattle.command_inputs.specs.Inputs.{IsInput, bytes_input}
use Rattle.command_inputs.specs.State.{state_input}
use Rattle.command_inputs.specs.declared.fault.InputFault.TheVariants.{State}
use Rattle.command_inputs.specs.declared.role.Role.TheVariants as role

-- what the whole bytes spell, their file does
pub start_of_whole : (program : Program) (most : ℕ) (file : Option (List ℕ)) (bytes : List ℕ) (objects : HeldObjects)
    → IsInput (bytes_input role.State most) file (Ok bytes) → IsStart program bytes objects → IsInput (state_input program most) file (Ok (objects_of objects))
start_of_whole program most None bytes objects h start = absurd h
start_of_whole program most (Some content) bytes objects h start =
    let spelled : IsStart program content objects = subst (λ bs. IsStart program bs objects) h.1 start in
    (h.0, record { given = spelled.given; spelled = spelled.spelled; held = spelled.holds.held })

-- a fault of the whole bytes is one of their file
pub fault_of_whole : (program : Program) (most : ℕ) (file : Option (List ℕ)) (bytes : List ℕ) (fault : StateFault)
    → IsInput (bytes_input role.State most) file (Ok bytes) → HasStateFault program bytes fault → IsInput (state_input program most) file (Err (State fault))
fault_of_whole program most None bytes fault h f = absurd h
fault_of_whole program most (Some content) bytes fault h f = inr (h.0, subst (λ content. HasStateFault program content fault) h.1 f)
