use Rattle.wire.proofs.Faults.{part_missed}
use Rattle.report_format.specs.Operations.{object_field}
use Rattle.report_format.proofs.ObjectFields.{no_tag}
use Rattle.report_format.proofs.operations.ObjectFieldFieldKind.read.Goals as goal

pub returns-in_err-tag : goal.returns-in_err-tag
returns-in_err-tag c =
    part_missed object_field (λ x. x) c.args.bytes.now c.args.at c.in_err-tag.field-0.0 c.from_residual.result c.from_residual.ensures.1 (no_tag c.args.bytes.now c.args.at c.in_err-tag.ensures.field.1)
