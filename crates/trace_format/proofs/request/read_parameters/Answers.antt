use Rattle.wire.proofs.Faults.{part_not_taken}
use Rattle.trace_format.specs.Events.{parameter_field, parameters_field}
use Rattle.trace_format.proofs.RequestFields.{parameter_more, no_parameter}
use Rattle.trace_format.proofs.request.read_parameters.Goals as goal

pub returns-in_err-parameter : goal.returns-in_err-parameter
returns-in_err-parameter c =
    part_not_taken parameter_field (parameters_field c.args.count) (λ x. x) (λ x. x) c.args.bytes.now c.loop.place c.args.at c.in_err-parameter.field-0.0 c.from_residual.result c.in_err-parameter.ensures c.from_residual.ensures.1 (no_parameter c.args.count c.args.bytes.now c.args.at c.loop.parameters.items c.loop.place c.loop.counter c.loop.invariant c.loop-test.true)

pub loop-preserved : goal.loop-preserved
loop-preserved c =
    rw c.in_ok-push.ensures.items (parameter_more c.loop.counter c.args.bytes.now c.args.at c.loop.parameters.items c.loop.place c.in_ok-parameter.parameter c.in_ok-parameter.next c.loop.invariant c.in_ok-parameter.ensures)
