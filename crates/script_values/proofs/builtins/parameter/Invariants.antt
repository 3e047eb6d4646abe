use Rattle.std.proofs.Common.{◌≡◌, drop}
use Rattle.script_meaning.specs.BuiltinCalls.{parameter}
use Rattle.script_values.proofs.builtins.parameter.Given as goal

abbrev pub invariant-loop-parameter : goal.invariant-loop-parameter
invariant-loop-parameter l = parameter l.name (drop l.parameter-index l.parameters) ≡ parameter l.name l.parameters
