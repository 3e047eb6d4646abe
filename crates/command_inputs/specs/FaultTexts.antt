-- How the faults of inputs are printed: docs/formats.md.
use Rattle.std.specs.Prelude.{ℕ, List, ◌++◌, codes}
use Rattle.std.specs.Fmt.{decimal}
use Rattle.script_check.specs.Least.{number_of}
use Rattle.state_file.specs.FaultTexts.{state_fault_text}
use Rattle.script_tokens.specs.declared.fault.SyntaxFaultKind.{SyntaxFaultKind}
use Rattle.script_tokens.specs.declared.fault.SyntaxFaultKind.TheVariants.{NoToken, Grammar, Limit}
use Rattle.workload.specs.FaultTexts.{work_fault_text}
use Rattle.command_inputs.specs.Roles.{role_name}
use Rattle.command_inputs.specs.declared.fault.InputFault.{InputFault}
use Rattle.command_inputs.specs.declared.fault.InputFault.TheVariants.{Absent, TooLong, Syntax, Check, State, Requests, Turns, Trace}
use Rattle.command_inputs.specs.declared.fault.TraceFault.{TraceFault}
use Rattle.command_inputs.specs.declared.fault.TraceFault.TheVariants.{Unreadable, Unbalanced}

-- the text of a trace's fault, without the input's name
abbrev pub trace_fault_text : TraceFault → List ℕ
trace_fault_text (Unreadable at) = codes "unreadable at " ++ decimal at
trace_fault_text (Unbalanced rid) = codes "not balanced at request " ++ decimal rid

-- the number by which a kind of fault is printed
abbrev pub syntax_number : SyntaxFaultKind → ℕ
syntax_number NoToken = 1
syntax_number Grammar = 2
syntax_number Limit = 3

-- of any input, with its name
abbrev pub fault_text : InputFault → List ℕ
fault_text (Absent role) = role_name role ++ codes ": absent"
fault_text (TooLong role) = role_name role ++ codes ": too long"
fault_text (Syntax fault) = codes "program: syntax " ++ decimal (syntax_number fault.kind) ++ codes " at " ++ decimal fault.at
fault_text (Check fault) = codes "program: check " ++ decimal (number_of fault.kind) ++ codes " at " ++ decimal fault.at
fault_text (State fault) = codes "state: " ++ state_fault_text fault
fault_text (Requests fault) = codes "requests: " ++ work_fault_text fault
fault_text (Turns fault) = codes "turns: " ++ work_fault_text fault
fault_text (Trace fault) = codes "trace: " ++ trace_fault_text fault
