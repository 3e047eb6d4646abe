-- What a file of requests is.
use Rattle.std.specs.Prelude.{ℕ, List}
use Rattle.script_tree.specs.Requests.{Request}
use Rattle.workload.specs.Files.{AreRequests, HasRequestsFault}
use Rattle.command_inputs.specs.Inputs.{Input}
use Rattle.command_inputs.specs.declared.fault.InputFault.{InputFault}
use Rattle.command_inputs.specs.declared.fault.InputFault.TheVariants.{Absent, TooLong, Syntax, Check, State, Requests, Turns, Trace}
use Rattle.command_inputs.specs.declared.role.Role.TheVariants as role

-- The fault is one of a file of requests, and the bytes have it.
abbrev pub IsRequestsFault : List ℕ → InputFault → Type 0
IsRequestsFault bytes (Absent role) = ⊥
IsRequestsFault bytes (TooLong role) = ⊥
IsRequestsFault bytes (Syntax fault) = ⊥
IsRequestsFault bytes (Check fault) = ⊥
IsRequestsFault bytes (State fault) = ⊥
IsRequestsFault bytes (Requests fault) = HasRequestsFault bytes fault
IsRequestsFault bytes (Turns fault) = ⊥
IsRequestsFault bytes (Trace fault) = ⊥

-- a file of requests, in at most so many bytes
abbrev pub requests_input : ℕ → Input (List Request)
requests_input most = record {
  role = role.Requests;
  most = most;
  spells = λ bytes requests. AreRequests bytes requests;
  has_fault = λ bytes fault. IsRequestsFault bytes fault;
}
