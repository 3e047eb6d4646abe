-- The numbers of script faults, and how they are printed.
use Rattle.std.specs.Prelude.{ℕ, List, ◌++◌, codes, decimal}
use Rattle.script_tree.specs.declared.fault.ScriptFault.{ScriptFault}
use Rattle.script_tree.specs.declared.fault.ScriptFault.TheVariants.{WrongKind, Overflow, ZeroDivisor, OutOfRange, TooLarge, OutOfSteps, TooManyOperations, TooDeep, BadBound}

-- the number of a fault
abbrev pub fault_number : ScriptFault → ℕ
fault_number WrongKind = 1
fault_number Overflow = 2
fault_number ZeroDivisor = 3
fault_number OutOfRange = 4
fault_number TooLarge = 5
fault_number OutOfSteps = 6
fault_number TooManyOperations = 7
fault_number TooDeep = 8
fault_number BadBound = 9

-- a fault as a response says it, but for the LF
abbrev pub fault_text : ScriptFault → List ℕ
fault_text f = codes "fault " ++ decimal (fault_number f)
