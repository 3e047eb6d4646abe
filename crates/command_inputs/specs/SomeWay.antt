-- A file says something to a command.
use Rattle.std.specs.Prelude.{ℕ, List, Option, Result}
use Rattle.script_tree.specs.Programs.{Program}
use Rattle.command_inputs.specs.Inputs.{Input, IsInput}
use Rattle.command_inputs.specs.Program.{program_input}
use Rattle.command_inputs.specs.Report.{report_input}
use Rattle.command_inputs.specs.Requests.{requests_input}
use Rattle.command_inputs.specs.Schedule.{schedule_input}
use Rattle.command_inputs.specs.State.{state_input}
use Rattle.command_inputs.specs.Trace.{trace_input}
use Rattle.command_inputs.specs.Turns.{turns_input}
use Rattle.command_inputs.specs.declared.fault.InputFault.{InputFault}

-- That no thing is such can't be: in this logic, which takes no case for granted, the least that says
-- that there is one.
abbrev pub ThereIs : {A : Type 0} → (A → Type 0) → Type 0
ThereIs {A} is = ¬ ((x : A) → ¬ is x)

-- Each file spells a thing, or has a fault.
abbrev pub IsReadSomeWay : {A : Type 0} → Input A → Type 0
IsReadSomeWay {A} input =
    (file : Option (List ℕ)) → ThereIs (λ (x : Result A InputFault). IsInput input file x)

-- It is so of each kind of input.
pub record AreReadSomeWay : Type 0 where
  pub programs : (most : ℕ) → IsReadSomeWay (program_input most)
  pub states : (program : Program) (most : ℕ) → IsReadSomeWay (state_input program most)
  pub requests : (most : ℕ) → IsReadSomeWay (requests_input most)
  pub turns : (most : ℕ) → IsReadSomeWay (turns_input most)
  pub traces : (most : ℕ) → IsReadSomeWay (trace_input most)
  pub reports : (most : ℕ) → IsReadSomeWay (report_input most)
  pub schedules : (most : ℕ) → IsReadSomeWay (schedule_input most)
