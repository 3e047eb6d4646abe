use Rattle.std.proofs.Common.{Err, length, ap, subst, arith}
use Rattle.period.specs.declared.trace.TraceEvent.{TraceEvent}
use Rattle.wire.specs.Spellings.{TakesPart}
use Rattle.trace_format.specs.Events.{event_field}
use Rattle.trace_format.proofs.FileEvents.{as_many, some_event, event_there}
use Rattle.trace_format.proofs.trace_file.TraceFile.event.Goals as goal

pub payload-requires : goal.payload-requires
payload-requires c = omega (arith, c.requires, as_many c.self.inside.records c.self.inside.spelled, ap length c.self.view_is)

pub unreachable-requires : goal.unreachable-requires
unreachable-requires c =
    some_event c.self.inside.records c.self.inside.spelled c.args.place c.payload.result.now c.payload.ensures
    (subst (λ f. TakesPart {A = TraceEvent} {X = TraceEvent} (λ x. x) (event_field 0) c.payload.result.now 0 (Err f)) c.in-Err-Other.field-0-is c.in-Err-Other.ensures)

pub returns-in-Ok : goal.returns-in-Ok
returns-in-Ok c = event_there c.self.inside.records c.self.inside.spelled c.args.self.now c.args.place c.payload.result.now c.in-Ok.event c.in-Ok.field-0-1 c.self.view_is c.payload.ensures c.in-Ok.ensures
