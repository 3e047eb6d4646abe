use Rattle.wire.proofs.Faults.{part_missed}
use Rattle.trace_format.specs.Events.{event_field}
use Rattle.trace_format.proofs.EventFields.{no_tag, no_id}
use Rattle.trace_format.proofs.decoding.read_event.Goals as goal

pub returns-in_err-tag : goal.returns-in_err-tag
returns-in_err-tag c =
    part_missed (event_field c.args.asked) (λ x. x) c.args.payload.now 0 c.in_err-tag.field-0.0 c.from_residual.result c.from_residual.ensures.1 (no_tag c.args.asked c.args.payload.now 0 c.in_err-tag.ensures.field.1)

pub returns-in_err-rid : goal.returns-in_err-rid
returns-in_err-rid c =
    part_missed (event_field c.args.asked) (λ x. x) c.args.payload.now 0 c.in_err-rid.field-0.0 c.from_residual-in_err-rid.result c.from_residual-in_err-rid.ensures.1 (no_id c.args.asked c.args.payload.now 0 c.in_ok-tag.tag c.in_ok-tag.next c.in_ok-tag.ensures.field c.in_err-rid.ensures.field.1)
