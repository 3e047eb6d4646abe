use Rattle.wire.proofs.Faults.{part_missed}
use Rattle.report_format.specs.Reports.{any_record_field, count_field, group_field, log_field}
use Rattle.report_format.proofs.RecordFields.{no_tag}
use Rattle.report_format.proofs.Tags.{tagged}
use Rattle.report_format.proofs.records.read_record.Goals as goal

pub returns-in_err-tag : goal.returns-in_err-tag
returns-in_err-tag c =
    part_missed any_record_field (λ x. x) c.args.payload.now 0 c.in_err-tag.field-0.0 c.from_residual.result c.from_residual.ensures.1 (no_tag c.args.payload.now 0 c.in_err-tag.ensures.field.1)

pub returns-in_ok-count-in-1 : goal.returns-in_ok-count-in-1
returns-in_ok-count-in-1 c =
    let part = c.in_ok-count-in-1.ensures in (
      part.0,
      tagged c.args.payload.now 0 c.in_ok-tag.tag c.in_ok-tag.next 1
          (count_field.spelling c.in_ok-count-in-1.count) c.in_ok-count-in-1.next
          c.in_ok-tag.ensures.field c.in-1.is part.1,
    )

pub returns-in_ok-log-in-2 : goal.returns-in_ok-log-in-2
returns-in_ok-log-in-2 c =
    let part = c.in_ok-log-in-2.ensures in (
      part.0,
      tagged c.args.payload.now 0 c.in_ok-tag.tag c.in_ok-tag.next 2
          (log_field.spelling c.in_ok-log-in-2.log) c.in_ok-log-in-2.next
          c.in_ok-tag.ensures.field c.in-2.is part.1,
    )

pub returns-in_ok-group-in-3 : goal.returns-in_ok-group-in-3
returns-in_ok-group-in-3 c =
    let part = c.in_ok-group-in-3.ensures in (
      part.0,
      tagged c.args.payload.now 0 c.in_ok-tag.tag c.in_ok-tag.next 3
          (group_field.spelling c.in_ok-group-in-3.group) c.in_ok-group-in-3.next
          c.in_ok-tag.ensures.field c.in-3.is part.1,
    )
