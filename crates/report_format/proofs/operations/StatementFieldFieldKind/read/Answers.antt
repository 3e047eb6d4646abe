use Rattle.wire.proofs.Faults.{part_missed, part_not_taken}
use Rattle.report_format.specs.Operations.{insert_field, select_field, update_field, delete_field, expect_field, statement_field}
use Rattle.report_format.proofs.StatementFields.{no_tag, no_statement}
use Rattle.report_format.proofs.Tags.{tagged}
use Rattle.report_format.proofs.operations.StatementFieldFieldKind.read.Goals as goal

pub returns-in_err-tag : goal.returns-in_err-tag
returns-in_err-tag c =
    part_missed statement_field (λ x. x) c.args.bytes.now c.args.at c.in_err-tag.field-0.0 c.from_residual.result c.from_residual.ensures.1 (no_tag c.args.bytes.now c.args.at c.in_err-tag.ensures.field.1)

pub returns-in_err-table-in-1 : goal.returns-in_err-table-in-1
returns-in_err-table-in-1 c =
    part_not_taken insert_field statement_field (λ x. x) (λ x. x) c.args.bytes.now c.in_ok-tag.next c.args.at c.in_err-table-in-1.field-0.0 c.from_residual-in_err-table-in-1.result c.in_err-table-in-1.ensures c.from_residual-in_err-table-in-1.ensures.1 (no_statement c.args.bytes.now c.args.at c.in_ok-tag.tag c.in_ok-tag.next 1 c.in_ok-tag.ensures.field c.in-1.is)

pub returns-in_err-table-in-2 : goal.returns-in_err-table-in-2
returns-in_err-table-in-2 c =
    part_not_taken select_field statement_field (λ x. x) (λ x. x) c.args.bytes.now c.in_ok-tag.next c.args.at c.in_err-table-in-2.field-0.0 c.from_residual-in_err-table-in-2.result c.in_err-table-in-2.ensures c.from_residual-in_err-table-in-2.ensures.1 (no_statement c.args.bytes.now c.args.at c.in_ok-tag.tag c.in_ok-tag.next 2 c.in_ok-tag.ensures.field c.in-2.is)

pub returns-in_err-table-in-3 : goal.returns-in_err-table-in-3
returns-in_err-table-in-3 c =
    part_not_taken update_field statement_field (λ x. x) (λ x. x) c.args.bytes.now c.in_ok-tag.next c.args.at c.in_err-table-in-3.field-0.0 c.from_residual-in_err-table-in-3.result c.in_err-table-in-3.ensures c.from_residual-in_err-table-in-3.ensures.1 (no_statement c.args.bytes.now c.args.at c.in_ok-tag.tag c.in_ok-tag.next 3 c.in_ok-tag.ensures.field c.in-3.is)

pub returns-in_err-table-in-4 : goal.returns-in_err-table-in-4
returns-in_err-table-in-4 c =
    part_not_taken delete_field statement_field (λ x. x) (λ x. x) c.args.bytes.now c.in_ok-tag.next c.args.at c.in_err-table-in-4.field-0.0 c.from_residual-in_err-table-in-4.result c.in_err-table-in-4.ensures c.from_residual-in_err-table-in-4.ensures.1 (no_statement c.args.bytes.now c.args.at c.in_ok-tag.tag c.in_ok-tag.next 4 c.in_ok-tag.ensures.field c.in-4.is)

pub returns-in_err-count-in-5 : goal.returns-in_err-count-in-5
returns-in_err-count-in-5 c =
    part_not_taken expect_field statement_field (λ x. x) (λ x. x) c.args.bytes.now c.in_ok-tag.next c.args.at c.in_err-count-in-5.field-0.0 c.from_residual-in_err-count-in-5.result c.in_err-count-in-5.ensures c.from_residual-in_err-count-in-5.ensures.1 (no_statement c.args.bytes.now c.args.at c.in_ok-tag.tag c.in_ok-tag.next 5 c.in_ok-tag.ensures.field c.in-5.is)

pub returns-in_ok-table-in-2 : goal.returns-in_ok-table-in-2
returns-in_ok-table-in-2 c =
    let part = c.in_ok-table-in-2.ensures in (
      part.0,
      tagged c.args.bytes.now c.args.at c.in_ok-tag.tag c.in_ok-tag.next 2
          (select_field.spelling (c.in_ok-table-in-2.table, (c.in_ok-table-in-2.columns, c.in_ok-table-in-2.tests))) c.in_ok-table-in-2.next
          c.in_ok-tag.ensures.field c.in-2.is part.1,
    )

pub returns-in_ok-table-in-3 : goal.returns-in_ok-table-in-3
returns-in_ok-table-in-3 c =
    let part = c.in_ok-table-in-3.ensures in (
      part.0,
      tagged c.args.bytes.now c.args.at c.in_ok-tag.tag c.in_ok-tag.next 3
          (update_field.spelling (c.in_ok-table-in-3.table, (c.in_ok-table-in-3.changes, c.in_ok-table-in-3.tests))) c.in_ok-table-in-3.next
          c.in_ok-tag.ensures.field c.in-3.is part.1,
    )

pub returns-in_ok-table-in-4 : goal.returns-in_ok-table-in-4
returns-in_ok-table-in-4 c =
    let part = c.in_ok-table-in-4.ensures in (
      part.0,
      tagged c.args.bytes.now c.args.at c.in_ok-tag.tag c.in_ok-tag.next 4
          (delete_field.spelling (c.in_ok-table-in-4.table, c.in_ok-table-in-4.tests)) c.in_ok-table-in-4.next
          c.in_ok-tag.ensures.field c.in-4.is part.1,
    )
