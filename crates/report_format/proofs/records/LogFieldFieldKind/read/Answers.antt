use Rattle.wire.proofs.Faults.{part_not_taken}
use Rattle.report_format.specs.Parts.{both, list_field}
use Rattle.report_format.specs.Operations.{object_field}
use Rattle.report_format.specs.Reports.{entry_field, log_field}
use Rattle.report_format.proofs.records.LogFieldFieldKind.read.Goals as goal

pub returns-in_err-object : goal.returns-in_err-object
returns-in_err-object c =
    part_not_taken (both object_field (list_field entry_field)) log_field (λ x. x) (λ x. x) c.args.bytes.now c.args.at c.args.at c.in_err-object.field-0.0 c.from_residual.result c.in_err-object.ensures c.from_residual.ensures.1 (λ none l next here. none (l.object, l.entries) next here)
