-- How a command ends without an answer, or without all of its line.
use Rattle.std.specs.Prelude.{ℕ}
use Rattle.outside.specs.declared.fault.Fault.{Fault}
use Rattle.outside.specs.declared.fault.Fault.TheVariants as outside
use Rattle.command_inputs.specs.declared.halt.Halt.{Halt}
use Rattle.command_inputs.specs.declared.halt.Halt.TheVariants.{Failed, Memory}

-- the status of a halt
abbrev pub halt_status : Halt → ℕ
halt_status Failed = 4
halt_status Memory = 5

-- the halt of a command to which the world outside has this fault
abbrev pub halt_of : Fault → Halt
halt_of outside.Failed = Failed
halt_of outside.Memory = Memory
