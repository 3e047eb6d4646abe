-- How the fault of a state is printed.
use Rattle.std.specs.Prelude.{ℕ, List, ◌++◌, codes}
use Rattle.std.specs.Fmt.{decimal}
use Rattle.state_file.specs.States.{fault_kind}
use Rattle.state_file.specs.declared.fault.StateFault.{StateFault}

-- the text of a fault: its number
abbrev pub state_fault_text : StateFault → List ℕ
state_fault_text fault = codes "kind " ++ decimal (fault_kind fault)
