-- What a state's file is.
use Rattle.std.specs.Prelude.{◌≡◌, ℕ, List}
use Rattle.script_tree.specs.Objects.{Objects}
use Rattle.script_tree.specs.Programs.{Program}
use Rattle.script_tree.specs.declared.operation.Object.{Object}
use Rattle.state_file.specs.States.{SpellsState, HasStateFault}
use Rattle.state_file.specs.Stored.{given_objects}
use Rattle.state_file.specs.declared.given.Given.{Given}
use Rattle.command_inputs.specs.Inputs.{Input}
use Rattle.command_inputs.specs.declared.fault.InputFault.{InputFault}
use Rattle.command_inputs.specs.declared.fault.InputFault.TheVariants.{Absent, TooLong, Syntax, Check, State, Requests, Turns, Trace}
use Rattle.command_inputs.specs.declared.role.Role.TheVariants as role

-- The bytes are a state of the program without a fault, and this is what the objects hold from it.
pub record SpellsObjects (program : Program) (bytes : List ℕ) (start : Objects) : Type 0 where
  pub given : Given
  pub spelled : SpellsState program bytes given
  pub held : (o : Object) → start o ≡ given_objects program given o

-- The fault is one of a state, and the bytes have it.
abbrev pub IsStateFault : Program → List ℕ → InputFault → Type 0
IsStateFault program bytes (Absent role) = ⊥
IsStateFault program bytes (TooLong role) = ⊥
IsStateFault program bytes (Syntax fault) = ⊥
IsStateFault program bytes (Check fault) = ⊥
IsStateFault program bytes (State fault) = HasStateFault program bytes fault
IsStateFault program bytes (Requests fault) = ⊥
IsStateFault program bytes (Turns fault) = ⊥
IsStateFault program bytes (Trace fault) = ⊥

-- a state of the program, in at most so many bytes
abbrev pub state_input : Program → ℕ → Input Objects
state_input program most = record {
  role = role.State;
  most = most;
  spells = λ bytes start. SpellsObjects program bytes start;
  has_fault = λ bytes fault. IsStateFault program bytes fault;
}
