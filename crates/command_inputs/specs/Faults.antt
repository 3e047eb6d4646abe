-- Why inputs are not read.
use Rattle.std.specs.Prelude.{◌≡◌, Result, Ok, Err, ⊤}
use Rattle.basis.specs.declared.or_memory.OrMemory.{OrMemory}
use Rattle.basis.specs.declared.or_memory.OrMemory.TheVariants.{Other}
use Rattle.outside.specs.Shelves.{ShelfTold, UsesShelf}
use Rattle.outside.specs.declared.fault.ShelfFault.{ShelfFault}
use Rattle.outside.specs.declared.fault.ShelfFault.TheVariants as shelf
use Rattle.command_inputs.specs.declared.fault.InputError.{InputError}
use Rattle.command_inputs.specs.declared.fault.InputError.TheVariants.{Fault, Halt as Halts}
use Rattle.command_inputs.specs.declared.fault.InputFault.{InputFault}
use Rattle.command_inputs.specs.declared.fault.InputFault.TheVariants.{Absent, TooLong, Syntax, Check, State, Requests, Turns, Trace}
use Rattle.command_inputs.specs.declared.halt.Halt.TheVariants.{Failed, Memory}
use Rattle.command_inputs.specs.declared.role.Role.{Role}
use Rattle.command_inputs.specs.declared.role.Role.TheVariants as role

-- a thing or its fault, as what a call answers that may run out of memory
abbrev pub or_memory : {A E : Type 0} → Result A E → Result A (OrMemory E)
or_memory (Ok x) = Ok x
or_memory (Err fault) = Err (Other fault)

-- why an input was not read, where the shelf refused a read of it
abbrev pub refused : Role → ShelfFault → InputError
refused role shelf.Absent = Fault (Absent role)
refused role shelf.Failed = Halts Failed
refused role shelf.Memory = Halts Memory

-- The fault is that the input isn't there.
abbrev pub IsAbsence : InputFault → Type 0
IsAbsence (Absent role) = Unit {0}
IsAbsence (TooLong role) = ⊥
IsAbsence (Syntax fault) = ⊥
IsAbsence (Check fault) = ⊥
IsAbsence (State fault) = ⊥
IsAbsence (Requests fault) = ⊥
IsAbsence (Turns fault) = ⊥
IsAbsence (Trace fault) = ⊥

-- the input that has this fault
abbrev pub role_of : InputFault → Role
role_of (Absent role) = role
role_of (TooLong role) = role
role_of (Syntax fault) = role.Program
role_of (Check fault) = role.Program
role_of (State fault) = role.State
role_of (Requests fault) = role.Requests
role_of (Turns fault) = role.Turns
role_of (Trace fault) = role.Trace

-- A fault that was found is one of this input.
abbrev pub IsFaultOf : {A : Type 0} → Role → Result A InputError → Type 0
IsFaultOf role (Ok x) = ⊤
IsFaultOf role (Err (Fault fault)) = role_of fault ≡ role
IsFaultOf role (Err (Halts halt)) = ⊤

-- A read failed.
abbrev pub HasFailed : {A : Type 0} → Result A InputError → Type 0
HasFailed (Ok x) = ⊥
HasFailed (Err (Fault fault)) = ⊥
HasFailed (Err (Halts Failed)) = Unit {0}
HasFailed (Err (Halts Memory)) = ⊥

-- An input isn't there.
abbrev pub LacksInput : {A : Type 0} → Result A InputError → Type 0
LacksInput (Ok x) = ⊥
LacksInput (Err (Fault fault)) = IsAbsence fault
LacksInput (Err (Halts halt)) = ⊥

-- The reads of a shelf that this came of: one failed just where it tells so, and one found its name
-- absent just where it tells that.
abbrev pub UsesToRead : {A : Type 0} → ShelfTold → ShelfTold → Result A InputError → Type 0
UsesToRead old new result = UsesShelf old new (HasFailed result) (LacksInput result)
