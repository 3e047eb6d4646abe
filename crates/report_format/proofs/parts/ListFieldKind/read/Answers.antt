use Rattle.wire.proofs.Faults.{part_missed}
use Rattle.report_format.specs.Parts.{list_field}
use Rattle.report_format.specs.RowLaws.{no_count}
use Rattle.report_format.proofs.parts.ListFieldKind.read.Goals as goal

pub returns-in_err-count : goal.returns-in_err-count
returns-in_err-count g c =
    part_missed (list_field g.F.FieldKind.field)
    (λ x. x) c.args.bytes.now c.args.at c.in_err-count.field-0.0 c.from_residual.result c.from_residual.ensures.1
    (no_count g.F.FieldKind.field g.met.F.FieldKind.one c.args.bytes.now c.args.at c.in_err-count.ensures.field.1)
