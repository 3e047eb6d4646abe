-- What a trace's file is.
use Rattle.std.specs.Prelude.{ℕ, List, Some}
use Rattle.period.specs.Traces.{IsBalanced}
use Rattle.period.specs.declared.trace.TraceEvent.{TraceEvent}
use Rattle.trace_format.specs.Balance.{IsFirstFault}
use Rattle.trace_format.specs.Events.{trace_format}
use Rattle.wire.specs.Files.{Spells, IsFault}
use Rattle.command_inputs.specs.Inputs.{Input}
use Rattle.command_inputs.specs.declared.fault.InputFault.{InputFault}
use Rattle.command_inputs.specs.declared.fault.InputFault.TheVariants.{Absent, TooLong, Syntax, Check, State, Requests, Turns, Trace}
use Rattle.command_inputs.specs.declared.fault.TraceFault.{TraceFault}
use Rattle.command_inputs.specs.declared.fault.TraceFault.TheVariants.{Unreadable, Unbalanced}
use Rattle.command_inputs.specs.declared.role.Role.TheVariants as role

-- The bytes spell a trace, which is balanced.
pub record SpellsTrace (bytes : List ℕ) (trace : List TraceEvent) : Type 0 where
  pub spelled : Spells trace_format bytes trace
  pub balanced : IsBalanced trace

-- The bytes spell a trace that isn't balanced, and this request names the fault.
abbrev pub IsUnbalanced : List ℕ → ℕ → Type 0
IsUnbalanced bytes rid =
    (trace : List TraceEvent) × Spells trace_format bytes trace × IsFirstFault trace (Some rid)

-- The bytes spell no trace from this place on, or this request names the fault of the trace that they spell.
abbrev pub HasTraceFault : List ℕ → TraceFault → Type 0
HasTraceFault bytes (Unreadable at) = IsFault trace_format bytes at
HasTraceFault bytes (Unbalanced rid) = IsUnbalanced bytes rid

-- The fault is one of a trace, and the bytes have it.
abbrev pub IsTraceFault : List ℕ → InputFault → Type 0
IsTraceFault bytes (Absent role) = ⊥
IsTraceFault bytes (TooLong role) = ⊥
IsTraceFault bytes (Syntax fault) = ⊥
IsTraceFault bytes (Check fault) = ⊥
IsTraceFault bytes (State fault) = ⊥
IsTraceFault bytes (Requests fault) = ⊥
IsTraceFault bytes (Turns fault) = ⊥
IsTraceFault bytes (Trace fault) = HasTraceFault bytes fault

-- a trace, in at most so many bytes
abbrev pub trace_input : ℕ → Input (List TraceEvent)
trace_input most = record {
  role = role.Trace;
  most = most;
  spells = λ bytes trace. SpellsTrace bytes trace;
  has_fault = λ bytes fault. IsTraceFault bytes fault;
}
