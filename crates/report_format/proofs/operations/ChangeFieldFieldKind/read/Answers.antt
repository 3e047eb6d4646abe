use Rattle.wire.proofs.Faults.{part_not_taken}
use Rattle.wire.specs.Spellings.{value_field}
use Rattle.report_format.specs.Parts.{both}
use Rattle.report_format.specs.Operations.{u32_field, change_field}
use Rattle.report_format.proofs.operations.ChangeFieldFieldKind.read.Goals as goal

pub returns-in_err-column : goal.returns-in_err-column
returns-in_err-column c =
    part_not_taken (both u32_field value_field) change_field (λ x. x) (λ x. x) c.args.bytes.now c.args.at c.args.at c.in_err-column.field-0.0 c.from_residual.result c.in_err-column.ensures c.from_residual.ensures.1 (λ none d next here. none (d.column, d.value) next here)
