use Rattle.std.proofs.Common.{◌∙◌, sym}
use Rattle.report_format.proofs.RecordOrder.{last_is}
use Rattle.report_format.proofs.RecordFields.{no_record, not_whole_record}
use Rattle.report_format.proofs.decoding.ReportRecordsRecordReader.read.Goals as goal

pub returns-in_err-record-clause-takes : goal.returns-in_err-record-clause-takes
returns-in_err-record-clause-takes c = λ before kept.
    no_record before c.args.payload.now c.in_err-record.field-0.0 c.from_residual.result c.in_err-record.ensures c.from_residual.ensures.1

pub returns-then-next-payload-clause-takes : goal.returns-then-next-payload-clause-takes
returns-then-next-payload-clause-takes c = λ before kept.
    not_whole_record before c.args.payload.now c.in_ok-record.record c.in_ok-record.next c.in_ok-record.ensures c.if-next-payload.true

pub returns-clause-goes_on : goal.returns-clause-goes_on
returns-clause-goes_on c = λ before kept. c.rank_of-rank.ensures ∙ sym (last_is before c.in_ok-record.record)
