-- A file says one thing to a command.
use Rattle.std.specs.Prelude.{◌≡◌, ℕ, List, Option, Result}
use Rattle.script_tree.specs.Programs.{Program}
use Rattle.command_inputs.specs.Inputs.{Input, IsInput}
use Rattle.command_inputs.specs.Program.{program_input}
use Rattle.command_inputs.specs.Report.{report_input}
use Rattle.command_inputs.specs.Requests.{requests_input}
use Rattle.command_inputs.specs.Schedule.{schedule_input}
use Rattle.command_inputs.specs.State.{state_input}
use Rattle.command_inputs.specs.Trace.{trace_input}
use Rattle.command_inputs.specs.Turns.{turns_input}
use Rattle.command_inputs.specs.declared.fault.InputFault.{InputFault}

-- No file spells two things, has two faults, or spells a thing and has a fault.
abbrev pub IsReadOneWay : {A : Type 0} → Input A → Type 0
IsReadOneWay {A} input =
    (file : Option (List ℕ)) (x y : Result A InputFault)
    → IsInput input file x → IsInput input file y → x ≡ y

-- It is so of each kind of input.
pub record AreReadOneWay : Type 0 where
  pub programs : (most : ℕ) → IsReadOneWay (program_input most)
  pub states : (program : Program) (most : ℕ) → IsReadOneWay (state_input program most)
  pub requests : (most : ℕ) → IsReadOneWay (requests_input most)
  pub turns : (most : ℕ) → IsReadOneWay (turns_input most)
  pub traces : (most : ℕ) → IsReadOneWay (trace_input most)
  pub reports : (most : ℕ) → IsReadOneWay (report_input most)
  pub schedules : (most : ℕ) → IsReadOneWay (schedule_input most)
