use Rattle.wire.proofs.Faults.{part_not_taken}
use Rattle.report_format.specs.Parts.{row_field}
use Rattle.report_format.specs.RowLaws.{one_more, none_more}
use Rattle.report_format.proofs.parts.read_row.Goals as goal

pub returns-in_err-item : goal.returns-in_err-item
returns-in_err-item g c =
    part_not_taken g.F.FieldKind.field (row_field g.F.FieldKind.field c.args.count) (λ x. x) (λ x. x) c.args.bytes.now c.loop.place c.args.at c.in_err-item.field-0.0 c.from_residual-in_err-item.result c.in_err-item.ensures c.from_residual-in_err-item.ensures.1 (none_more g.F.FieldKind.field g.met.F.FieldKind.one c.args.count c.args.bytes.now c.args.at c.loop.items.items c.loop.place c.loop.counter c.loop.invariant c.loop-test.true)

pub loop-preserved : goal.loop-preserved
loop-preserved g c =
    rw c.in_ok-push.ensures.items (one_more g.F.FieldKind.field g.met.F.FieldKind.one c.loop.counter c.args.bytes.now c.args.at c.loop.items.items c.loop.place c.in_ok-item.item c.in_ok-item.next c.loop.invariant c.in_ok-item.ensures)
