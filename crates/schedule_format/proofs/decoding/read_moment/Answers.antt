use Rattle.schedule_format.proofs.MomentFields.{moment_missed, no_tag, no_id}
use Rattle.schedule_format.proofs.decoding.read_moment.Goals as goal

pub returns-in_err-tag : goal.returns-in_err-tag
returns-in_err-tag c =
    moment_missed c.args.payload.now c.in_err-tag.field-0.0 c.from_residual.result c.from_residual.ensures.1
    (no_tag c.args.payload.now 0 c.in_err-tag.ensures.field.1)

pub returns-in_err-rid : goal.returns-in_err-rid
returns-in_err-rid c =
    moment_missed c.args.payload.now c.in_err-rid.field-0.0 c.from_residual-in_err-rid.result c.from_residual-in_err-rid.ensures.1 (no_id c.args.payload.now 0 c.in_ok-tag.tag c.in_ok-tag.next c.in_ok-tag.ensures.field c.in_err-rid.ensures.field.1)
