use Rattle.std.proofs.Common.{length, ap, arith}
use Rattle.trace_format.proofs.FileEvents.{as_many, some_event, has_head, asks_here, answers_here}
use Rattle.trace_format.proofs.EventFields.{no_tag, no_id}
use Rattle.trace_format.proofs.trace_file.TraceFile.head.Goals as goal

pub payload-payload-requires : goal.payload-payload-requires
payload-payload-requires c = omega (arith, c.requires, as_many c.self.inside.records c.self.inside.spelled, ap length c.self.view_is)

pub unreachable-requires : goal.unreachable-requires
unreachable-requires c =
    let payload = c.payload-payload.result.now in
    some_event c.self.inside.records c.self.inside.spelled c.args.place payload c.payload-payload.ensures (no_tag 0 payload 0 c.in_default.ensures.field.1)

pub unreachable-requires-in_default-read_u32 : goal.unreachable-requires-in_default-read_u32
unreachable-requires-in_default-read_u32 c =
    let payload = c.payload-payload.result.now in
    some_event c.self.inside.records c.self.inside.spelled c.args.place payload c.payload-payload.ensures
    (no_id 0 payload 0 c.in-Ok.tag c.in-Ok.next c.in-Ok.ensures.field c.in_default-read_u32.ensures.field.1)

pub returns-then-tag-eq1 : goal.returns-then-tag-eq1
returns-then-tag-eq1 c =
    has_head c.self.inside.records c.self.inside.spelled c.args.self.now c.args.place c.payload-payload.result.now _ c.in-Ok.tag c.in-Ok.next c.in-Ok-read_u32.rid c.in-Ok-read_u32.field-0-1
    c.self.view_is c.payload-payload.ensures c.in-Ok.ensures.field c.in-Ok-read_u32.ensures.field
    (λ e. asks_here e c.in-Ok.tag c.in-Ok-read_u32.rid c.if-tag-eq1.true)

pub returns-else-tag-eq1 : goal.returns-else-tag-eq1
returns-else-tag-eq1 c =
    has_head c.self.inside.records c.self.inside.spelled c.args.self.now c.args.place c.payload-payload.result.now _ c.in-Ok.tag c.in-Ok.next c.in-Ok-read_u32.rid c.in-Ok-read_u32.field-0-1
    c.self.view_is c.payload-payload.ensures c.in-Ok.ensures.field c.in-Ok-read_u32.ensures.field
    (λ e. answers_here e c.in-Ok.tag c.in-Ok-read_u32.rid c.if-tag-eq1.false)
