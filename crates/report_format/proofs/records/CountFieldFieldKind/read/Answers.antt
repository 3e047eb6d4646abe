use Rattle.wire.proofs.Faults.{part_not_taken}
use Rattle.report_format.specs.Parts.{both}
use Rattle.report_format.specs.Operations.{u32_field}
use Rattle.report_format.specs.Reports.{count_field}
use Rattle.report_format.proofs.records.CountFieldFieldKind.read.Goals as goal

pub returns-in_err-rid : goal.returns-in_err-rid
returns-in_err-rid c =
    part_not_taken (both u32_field u32_field) count_field (λ x. x) (λ x. x) c.args.bytes.now c.args.at c.args.at c.in_err-rid.field-0.0 c.from_residual.result c.in_err-rid.ensures c.from_residual.ensures.1 (λ none n next here. none (n.rid, n.operations) next here)
