use Rattle.std.proofs.Common.{◌∙◌, arith}
use Rattle.std.proofs.lemmas.Grind.{common_steps}
use Rattle.trace_format.proofs.Lengths.{few_parameters}
use Rattle.trace_format.proofs.encoding.write_request.Goals as goal

pub overflow_cast-parameters : goal.overflow_cast-parameters
overflow_cast-parameters c =
    record { fits = few_parameters c.args.request.now c.as_slice-parameters.result.now (c.as_slice-parameters.ensures ∙ c.parameters.ensures) c.requires }

pub returns : goal.returns
returns c = grind (arith, common_steps)
