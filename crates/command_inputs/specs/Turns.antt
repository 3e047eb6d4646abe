-- What a file of turns is.
use Rattle.std.specs.Prelude.{ℕ, List}
use Rattle.workload.specs.Files.{AreTurns, HasTurnsFault}
use Rattle.command_inputs.specs.Inputs.{Input}
use Rattle.command_inputs.specs.declared.fault.InputFault.{InputFault}
use Rattle.command_inputs.specs.declared.fault.InputFault.TheVariants.{Absent, TooLong, Syntax, Check, State, Requests, Turns, Trace}
use Rattle.command_inputs.specs.declared.role.Role.TheVariants as role

-- The fault is one of a file of turns, and the bytes have it.
abbrev pub IsTurnsFault : List ℕ → InputFault → Type 0
IsTurnsFault bytes (Absent role) = ⊥
IsTurnsFault bytes (TooLong role) = ⊥
IsTurnsFault bytes (Syntax fault) = ⊥
IsTurnsFault bytes (Check fault) = ⊥
IsTurnsFault bytes (State fault) = ⊥
IsTurnsFault bytes (Requests fault) = ⊥
IsTurnsFault bytes (Turns fault) = HasTurnsFault bytes fault
IsTurnsFault bytes (Trace fault) = ⊥

-- a file of turns, in at most so many bytes
abbrev pub turns_input : ℕ → Input (List ℕ)
turns_input most = record {
  role = role.Turns;
  most = most;
  spells = λ bytes turns. AreTurns bytes turns;
  has_fault = λ bytes fault. IsTurnsFault bytes fault;
}
