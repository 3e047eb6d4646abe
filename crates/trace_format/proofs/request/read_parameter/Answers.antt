use Rattle.wire.specs.Spellings.{bytes_field}
use Rattle.wire.proofs.Faults.{part_not_taken}
use Rattle.trace_format.specs.Events.{parameter_field}
use Rattle.trace_format.proofs.RequestFields.{no_name, no_value}
use Rattle.trace_format.proofs.request.read_parameter.Goals as goal

pub returns-in_err-name : goal.returns-in_err-name
returns-in_err-name c =
    part_not_taken bytes_field parameter_field (λ x. x) (λ x. x) c.args.bytes.now c.args.at c.args.at c.in_err-name.field-0.0 c.from_residual.result c.in_err-name.ensures c.from_residual.ensures.1 (no_name c.args.bytes.now c.args.at)

pub returns-in_err-value : goal.returns-in_err-value
returns-in_err-value c =
    part_not_taken bytes_field parameter_field (λ x. x) (λ x. x) c.args.bytes.now c.in_ok-name.next c.args.at c.in_err-value.field-0.0 c.from_residual-in_err-value.result c.in_err-value.ensures c.from_residual-in_err-value.ensures.1 (no_value c.args.bytes.now c.args.at c.in_ok-name.name c.in_ok-name.next c.in_ok-name.ensures)
