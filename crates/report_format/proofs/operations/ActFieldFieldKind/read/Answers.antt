use Rattle.wire.proofs.Faults.{part_missed, part_not_taken}
use Rattle.wire.specs.Spellings.{bytes_field, value_field}
use Rattle.report_format.specs.Operations.{put_field, statements_field, act_field}
use Rattle.report_format.proofs.ActFields.{no_tag, no_put}
use Rattle.report_format.proofs.Tags.{tagged}
use Rattle.report_format.proofs.operations.ActFieldFieldKind.read.Goals as goal

pub returns-in_err-tag : goal.returns-in_err-tag
returns-in_err-tag c =
    part_missed act_field (λ x. x) c.args.bytes.now c.args.at c.in_err-tag.field-0.0 c.from_residual.result c.from_residual.ensures.1 (no_tag c.args.bytes.now c.args.at c.in_err-tag.ensures.field.1)

pub returns-in_err-key-in-4 : goal.returns-in_err-key-in-4
returns-in_err-key-in-4 c =
    part_not_taken put_field act_field (λ x. x) (λ x. x) c.args.bytes.now c.in_ok-tag.next c.args.at c.in_err-key-in-4.field-0.0 c.from_residual-in_err-key-in-4.result c.in_err-key-in-4.ensures c.from_residual-in_err-key-in-4.ensures.1 (no_put c.args.bytes.now c.args.at c.in_ok-tag.tag c.in_ok-tag.next c.in_ok-tag.ensures.field c.in-4.is)

pub returns-in_ok-value-in-2 : goal.returns-in_ok-value-in-2
returns-in_ok-value-in-2 c =
    let part = c.in_ok-value-in-2.ensures in (
      part.0,
      tagged c.args.bytes.now c.args.at c.in_ok-tag.tag c.in_ok-tag.next 2
          (value_field.spelling c.in_ok-value-in-2.value) c.in_ok-value-in-2.next
          c.in_ok-tag.ensures.field c.in-2.is part.1,
    )

pub returns-in_ok-key-in-3 : goal.returns-in_ok-key-in-3
returns-in_ok-key-in-3 c =
    let part = c.in_ok-key-in-3.ensures in (
      part.0,
      tagged c.args.bytes.now c.args.at c.in_ok-tag.tag c.in_ok-tag.next 3
          (bytes_field.spelling c.in_ok-key-in-3.key) c.in_ok-key-in-3.next
          c.in_ok-tag.ensures.field c.in-3.is part.1,
    )

pub returns-in_ok-key-in-4 : goal.returns-in_ok-key-in-4
returns-in_ok-key-in-4 c =
    let part = c.in_ok-key-in-4.ensures in (
      part.0,
      tagged c.args.bytes.now c.args.at c.in_ok-tag.tag c.in_ok-tag.next 4
          (put_field.spelling (c.in_ok-key-in-4.key, c.in_ok-key-in-4.value)) c.in_ok-key-in-4.next
          c.in_ok-tag.ensures.field c.in-4.is part.1,
    )

pub returns-in_ok-key-in-5 : goal.returns-in_ok-key-in-5
returns-in_ok-key-in-5 c =
    let part = c.in_ok-key-in-5.ensures in (
      part.0,
      tagged c.args.bytes.now c.args.at c.in_ok-tag.tag c.in_ok-tag.next 5
          (bytes_field.spelling c.in_ok-key-in-5.key) c.in_ok-key-in-5.next
          c.in_ok-tag.ensures.field c.in-5.is part.1,
    )

pub returns-in_ok-statements-in-6 : goal.returns-in_ok-statements-in-6
returns-in_ok-statements-in-6 c =
    let part = c.in_ok-statements-in-6.ensures in (
      part.0,
      tagged c.args.bytes.now c.args.at c.in_ok-tag.tag c.in_ok-tag.next 6
          (statements_field.spelling c.in_ok-statements-in-6.statements) c.in_ok-statements-in-6.next
          c.in_ok-tag.ensures.field c.in-6.is part.1,
    )
