use Rattle.trace_format.proofs.EventFields.{no_event, not_whole_event}
use Rattle.trace_format.proofs.decoding.EventsRecordReader.read.Goals as goal

pub returns-in_err-event-clause-takes : goal.returns-in_err-event-clause-takes
returns-in_err-event-clause-takes c = λ before kept.
    no_event before c.args.self.now.asked c.args.payload.now c.in_err-event.field-0.0 c.from_residual.result kept c.in_err-event.ensures c.from_residual.ensures.1

pub returns-then-next-payload-clause-takes : goal.returns-then-next-payload-clause-takes
returns-then-next-payload-clause-takes c = λ before kept.
    not_whole_event before c.args.self.now.asked c.args.payload.now c.in_ok-event.event c.in_ok-event.next kept c.in_ok-event.ensures c.if-next-payload.true
