use Rattle.std.proofs.Common.{◌≡◌, ◌<◌, ◌^◌, ◌++◌, length, drop}
use Rattle.trace_format.specs.Events.{parameters_spelling}
use Rattle.trace_format.proofs.encoding.write_parameters.Given as goal

abbrev pub invariant-loop-parameter : goal.invariant-loop-parameter
invariant-loop-parameter l = record {
  short : length (parameters_spelling (drop l.parameter-index l.parameters)) < 2 ^ 32;
  written : l.out.items ++ parameters_spelling (drop l.parameter-index l.parameters) ≡ l.fn.out.items ++ parameters_spelling l.parameters;
}
