use Rattle.std.proofs.Common.{◌≡◌, ◌+◌, length, drop}
use Rattle.trace_format.specs.Events.{parameters_spelling}
use Rattle.trace_format.proofs.encoding.room_behind_parameters.Given as goal

-- what is left behind those before is what is left behind all, and those that come
abbrev pub invariant-loop-parameter : goal.invariant-loop-parameter
invariant-loop-parameter l = l.room + length (parameters_spelling (drop l.parameter-index l.parameters)) ≡ l.left + length (parameters_spelling l.parameters)
