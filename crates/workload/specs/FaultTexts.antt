-- How the fault of a file of requests or of turns is printed.
use Rattle.std.specs.Prelude.{ℕ, List, ◌++◌, codes}
use Rattle.std.specs.Fmt.{decimal}
use Rattle.workload.specs.Files.{fault_kind}
use Rattle.workload.specs.declared.fault.WorkFault.{WorkFault}

-- the text of a fault: its number
abbrev pub work_fault_text : WorkFault → List ℕ
work_fault_text fault = codes "kind " ++ decimal (fault_kind fault)
