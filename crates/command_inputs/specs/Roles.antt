-- What inputs are called.
use Rattle.std.specs.Prelude.{ℕ, List, codes}
use Rattle.command_inputs.specs.declared.role.Role.{Role}
use Rattle.command_inputs.specs.declared.role.Role.TheVariants.{Program, State, Requests, Turns, Trace, Report, Schedule}

-- the name of an input
abbrev pub role_name : Role → List ℕ
role_name Program = codes "program"
role_name State = codes "state"
role_name Requests = codes "requests"
role_name Turns = codes "turns"
role_name Trace = codes "trace"
role_name Report = codes "report"
role_name Schedule = codes "schedule"
