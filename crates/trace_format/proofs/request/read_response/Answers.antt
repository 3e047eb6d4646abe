use Rattle.wire.specs.Spellings.{bytes_field}
use Rattle.wire.proofs.Faults.{part_missed, part_not_taken}
use Rattle.trace_format.specs.Events.{response_field}
use Rattle.trace_format.proofs.RequestFields.{no_status, no_response_body}
use Rattle.trace_format.proofs.request.read_response.Goals as goal

pub returns-in_err-status : goal.returns-in_err-status
returns-in_err-status c =
    part_missed response_field (λ x. x) c.args.bytes.now c.args.at c.in_err-status.field-0.0 c.from_residual.result c.from_residual.ensures.1 (no_status c.args.bytes.now c.args.at c.in_err-status.ensures.field.1)

pub returns-in_err-body : goal.returns-in_err-body
returns-in_err-body c =
    part_not_taken bytes_field response_field (λ x. x) (λ x. x) c.args.bytes.now c.in_ok-status.next c.args.at c.in_err-body.field-0.0 c.from_residual-in_err-body.result c.in_err-body.ensures c.from_residual-in_err-body.ensures.1 (no_response_body c.args.bytes.now c.args.at c.in_ok-status.status c.in_ok-status.next c.in_ok-status.ensures.field)
